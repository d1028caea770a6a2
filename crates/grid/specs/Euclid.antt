-- A step of Euclid's rule as the code takes it, to the nearest multiple. Document 01 asks for starts "without common
-- factor" and leaves the way open.
-- Assumes nothing.
use Rattle.std.specs.Prelude.{◌≡◌, ◌⊎◌, ℕ, zero, suc, ◌-◌, ◌%◌, ◌<◌}

-- r is the distance of x from a multiple of y: the rest, or what is missing to y
pub record NearestRest (x y r : ℕ) : Type 0 where
  pub below : r < y
  pub either : (r ≡ x % y) ⊎ (r ≡ y - x % y)

-- what a step of Euclid's rule divides by: y, or 1 once y is 0
unfoldable pub divisor_of : ℕ → ℕ
divisor_of zero = 1
divisor_of (suc y) = suc y

-- what a step puts in the place of x: y, or x itself once y is 0
unfoldable pub kept_of : ℕ → ℕ → ℕ
kept_of x zero = x
kept_of x (suc y) = suc y

-- a step of Euclid's rule leads from x and y to u and v; once y is 0, it changes nothing
pub record Stepped (x y u v : ℕ) : Type 0 where
  pub ended : y ≡ 0 → (u ≡ x) × (v ≡ 0)
  pub on : 0 < y → (u ≡ y) × NearestRest x y v
