-- Sums over a list, and how often a number stands in one. What moves is conserved for every weight: with `hit x`
-- nothing is lost or doubled, with 1 lengths agree.
-- Assumes nothing.
use Rattle.std.specs.Prelude.{cond, List, [], ◌∷◌, ℕ, ◌+◌, ◌<◌, eqb}

-- the sum of what w gives for each of l
unfoldable pub total : {A : Type 0} → (A → ℕ) → List A → ℕ
total w [] = 0
total w (a ∷ l) = w a + total w l

-- 1 where the two are equal, else 0
unfoldable pub hit : ℕ → ℕ → ℕ
hit x y = cond (eqb x y) 1 0

-- how often x stands in l
abbrev pub tally : ℕ → List ℕ → ℕ
tally x = total (hit x)

-- each of l is below n
unfoldable pub Within : ℕ → List ℕ → Type 0
Within n l = (m : ℕ) → 0 < tally m l → m < n
