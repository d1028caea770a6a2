-- Numbers of 16 bits in bytes. "Multi-byte numbers stand lowest byte first."
-- Assumes nothing.
use Rattle.std.specs.Prelude.{◌≡◌, List, ℕ, ◌+◌, ◌*◌, ◌/◌, ◌%◌, ◌≤◌, ◌<◌, get_or, length, set}

-- the 16-bit number at byte i
unfoldable pub word_at : List ℕ → ℕ → ℕ
word_at b i = get_or b i 0 + 256 * get_or b (i + 1) 0

-- x stored at byte i
unfoldable pub put_word : List ℕ → ℕ → ℕ → List ℕ
put_word b i x = set (set b i (x % 256)) (i + 1) (x / 256)

-- b' is b but for the bytes from lo up to hi
pub record Only (lo hi : ℕ) (b b' : List ℕ) : Type 0 where
  pub len : length b' ≡ length b
  pub low : (i : ℕ) → i < lo → get_or b' i 0 ≡ get_or b i 0
  pub high : (i : ℕ) → hi ≤ i → get_or b' i 0 ≡ get_or b i 0

-- n bytes of s from i on stand in d' from j on; all else of d' is as in d
pub record Copied (s : List ℕ) (i : ℕ) (d : List ℕ) (j n : ℕ) (d' : List ℕ) : Type 0 where
  pub only : Only j (j + n) d d'
  pub copied : (k : ℕ) → k < n → get_or d' (j + k) 0 ≡ get_or s (i + k) 0
