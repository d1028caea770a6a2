-- Fractions. Document 01, "The split list": "Fraction t, from 0 to 1, is any n/d of whole numbers with d at least 1
-- and n from 0 to d"; "A start is a numerator and a denominator without common factor". `Fraction` is the code's own
-- struct (src/lib.rt).
-- Assumes nothing.
use Rattle.std.specs.Prelude.{◌≡◌, ℕ, zero, suc, ◌*◌, ◌/◌, ◌%◌, ◌≤◌, ◌<◌}
use Rattle.grid.specs.declared.Fraction.{Fraction}

-- a fraction from 0 to 1
pub record IsFraction (t : Fraction) : Type 0 where
  pub positive : 1 ≤ t.den
  pub within : t.num ≤ t.den

-- s is below t, multiplied out
abbrev pub Below : Fraction → Fraction → Type 0
Below s t = s.num * t.den < t.num * s.den

-- s is not above t, multiplied out
abbrev pub NotAbove : Fraction → Fraction → Type 0
NotAbove s t = s.num * t.den ≤ t.num * s.den

-- no common factor but 1
abbrev pub Reduced : Fraction → Type 0
Reduced t = (k a b : ℕ) → t.num ≡ k * a → t.den ≡ k * b → k ≡ 1

-- "zero is 0/1"
abbrev pub zero_fraction : Fraction
zero_fraction = record { num = 0; den = 1 }

-- the end of a leg
abbrev pub one_fraction : Fraction
one_fraction = record { num = 1; den = 1 }

-- k divides n
pub record Divides (k n : ℕ) : Type 0 where
  pub times : ℕ
  pub is : n ≡ k * times

-- r is the greatest common factor of a and b: a common factor that every common factor divides
pub record IsGcd (a b r : ℕ) : Type 0 where
  pub left : Divides r a
  pub right : Divides r b
  pub greatest : (k : ℕ) → Divides k a → Divides k b → Divides k r

-- f is n / d without common factor: both are multiples of it, by one factor
pub record IsLowest (n d : ℕ) (f : Fraction) : Type 0 where
  pub by : ℕ
  pub positive : 1 ≤ by
  pub num_is : n ≡ by * f.num
  pub den_is : d ≡ by * f.den
  pub reduced : Reduced f

-- Euclid's rule, in at most k steps
unfoldable pub gcd_by : ℕ → ℕ → ℕ → ℕ
gcd_by zero a b = a
gcd_by (suc k) a zero = a
gcd_by (suc k) a (suc b) = gcd_by k (suc b) (a % suc b)

-- the greatest common factor
unfoldable pub gcd_of : ℕ → ℕ → ℕ
gcd_of a b = gcd_by b a b

-- n / d without common factor, computed
unfoldable pub lowest : ℕ → ℕ → Fraction
lowest n d = record { num = n / gcd_of n d; den = d / gcd_of n d }
