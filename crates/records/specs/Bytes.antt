-- Numbers as bytes, "lowest byte first", and bytes written into a buffer.
-- Assumes nothing.
use Rattle.std.specs.Prelude.{List, [], ◌∷◌, ℕ, ◌+◌, ◌/◌, ◌%◌, set}

-- 16 bits
abbrev pub bytes2 : ℕ → List ℕ
bytes2 x = x % 256 ∷ x / 256 % 256 ∷ []

-- 32 bits
abbrev pub bytes4 : ℕ → List ℕ
bytes4 x = x % 256 ∷ x / 256 % 256 ∷ x / 65536 % 256 ∷ x / 16777216 % 256 ∷ []

-- b with the bytes xs written at i: all else of b is as it was
abbrev pub write : List ℕ → ℕ → List ℕ → List ℕ
write b i [] = b
write b i (x ∷ xs) = write (set b i x) (i + 1) xs
