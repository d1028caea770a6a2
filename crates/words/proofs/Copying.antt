-- The words that `copy` and `shift` move.
-- Assumes nothing.
use mathlib.Core.Path.{◌≡◌, ap₂}
use mathlib.Core.List.{List}
use Prim.Native.Nat.{ℕ, ◌+◌, ◌*◌, ◌-◌, ◌≤◌, ◌<◌}
use native.Mathlib.Omega.{arith}
use lib.ListN.{get_or}
use Rattle.words.specs.Words.{word_at, Copied}

-- a word that was copied
pub word_copied : {s d d' : List ℕ} {i j n : ℕ} → Copied s i d j n d' → (o o' : ℕ) → i ≤ o → o + 2 ≤ i + n
    → o + j ≡ o' + i → word_at d' o' ≡ word_at s o
unfolding word_at
word_copied {s} {d} {d'} {i} {j} {n} m o o' g h e =
    ap₂ (λ (x y : ℕ). x + 256 * y) (byte o o' g (omega arith) e)
    (byte (o + 1) (o' + 1) (omega arith) (omega arith) (omega arith))
  where
    byte : (o o' : ℕ) → i ≤ o → o < i + n → o + j ≡ o' + i → get_or d' o' 0 ≡ get_or s o 0
    byte o o' g h e =
        let p : j + (o - i) ≡ o' = omega arith in
        let q : i + (o - i) ≡ o = omega arith in
        rw (p, q) at (m.copied (o - i) (omega arith))
