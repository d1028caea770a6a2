-- Fractions: the order, the mediant between two, and that two proportional ones without common factor are the same.
-- Assumes nothing.
use mathlib.Core.Path.{◌≡◌, ap, sym, ◌∙◌}
use Prim.Native.Nat.{ℕ, zero, suc, ◌+◌, ◌*◌, ◌-◌, ◌≤◌, ◌<◌}
use native.Mathlib.Omega.{arith}
use native.Mathlib.Decide.{dec_le, dec_lt}
use native.Mathlib.Nat.{mul-le-mul_left, mul-le-mul_right, mul-lt-mul_of_pos_right}
use Rattle.grid.specs.declared.Fraction.{Fraction}
use Rattle.grid.specs.Fraction.{IsFraction, Below, NotAbove, Reduced}

-- a factor above 0 is taken off both sides
pub cancel_lt : (a b k : ℕ) → a * k < b * k → a < b
cancel_lt a b k h = go (dec_lt a b)
  where
    go : Dec (a < b) → a < b
    go (yes l) = l
    go (no l) =
        let le : b ≤ a = omega arith in
        absurd (omega (arith, mul-le-mul_right k le))

pub cancel_le : (a b k : ℕ) → 1 ≤ k → a * k ≤ b * k → a ≤ b
cancel_le a b k pos h = go (dec_le a b)
  where
    go : Dec (a ≤ b) → a ≤ b
    go (yes l) = l
    go (no l) =
        let lt : b < a = omega arith in
        absurd (omega (arith, mul-lt-mul_of_pos_right lt pos))

pub cancel_eq : (a b k : ℕ) → 1 ≤ k → a * k ≡ b * k → a ≡ b
cancel_eq a b k pos h =
    let l : a ≤ b = cancel_le a b k pos (omega arith) in
    let g : b ≤ a = cancel_le b a k pos (omega arith) in
    omega arith

-- two proportional pairs are multiples of one
pub record Common (a b c d : ℕ) : Type 0 where
  pub top : ℕ
  pub bottom : ℕ
  pub left : ℕ
  pub right : ℕ
  pub a_is : a ≡ left * top
  pub b_is : b ≡ left * bottom
  pub c_is : c ≡ right * top
  pub d_is : d ≡ right * bottom

-- a pair that is larger by the other one
add_right : (a b c d : ℕ) → Common a b c d → Common a b (a + c) (b + d)
add_right a b c d r =
    record {
      top = r.top;
      bottom = r.bottom;
      left = r.left;
      right = r.left + r.right;
      a_is = r.a_is;
      b_is = r.b_is;
      c_is = omega (arith, r.a_is, r.c_is);
      d_is = omega (arith, r.b_is, r.d_is);
    }

swap : (a b c d : ℕ) → Common a b c d → Common c d a b
swap a b c d r =
    record {
      top = r.top;
      bottom = r.bottom;
      left = r.right;
      right = r.left;
      a_is = r.c_is;
      b_is = r.d_is;
      c_is = r.a_is;
      d_is = r.b_is;
    }

-- the smaller pair has the smaller numerator
smaller : (a b c d : ℕ) → 1 ≤ b → a * d ≡ c * b → b < d → a ≤ c
smaller a b c d pos h l = cancel_le a c b pos (omega (arith, mul-le-mul_left a (le_of_suc_le l)))
  where
    le_of_suc_le : b < d → b ≤ d
    le_of_suc_le k = omega arith

-- what is proved by subtraction: of pairs whose lower parts sum to at most fuel
abbrev pub Found : ℕ → Type 0
Found fuel = (a b c d : ℕ) → b + d ≤ fuel → 1 ≤ b → 1 ≤ d → a * d ≡ c * b → Common a b c d

-- the larger pair less the smaller one
less : (fuel : ℕ) → Found fuel → (a b c d : ℕ) → b + d ≤ suc fuel → 1 ≤ b → b < d → a * d ≡ c * b → Common a b c d
less fuel ih a b c d f pb l h =
    let le : a ≤ c = smaller a b c d pb h l in
    go (c - a) (d - b) (omega arith) (omega arith) (omega arith)
  where
    go : (x y : ℕ) → a + x ≡ c → b + y ≡ d → 1 ≤ y → Common a b c d
    go x y ex ey py =
        let h' : a * (b + y) ≡ (a + x) * b = rw (ex, ey) h in
        rw (← ex, ← ey) (add_right a b x y (ih a b x y (omega arith) pb py (omega arith)))

pub common : (fuel : ℕ) → Found fuel
common zero a b c d f pb pd h = absurd (omega arith)
common (suc fuel) a b c d f pb pd h = go (common fuel) (dec_lt b d) (dec_lt d b)
  where
    same : b ≡ d → Common a b c d
    same e =
        let k : a * b ≡ c * b = rw (← e) at h in
        record {
          top = a;
          bottom = b;
          left = 1;
          right = 1;
          a_is = omega arith;
          b_is = omega arith;
          c_is = omega (arith, cancel_eq a c b pb k);
          d_is = omega arith;
        }

    go : Found fuel → Dec (b < d) → Dec (d < b) → Common a b c d
    go ih (yes l) q = less fuel ih a b c d f pb l h
    go ih (no l) (yes m) = swap c d a b (less fuel ih c d a b (omega arith) pd m (sym h))
    go ih (no l) (no m) = same (omega arith)

pub same_fraction : (s t : Fraction) → Reduced s → Reduced t → 1 ≤ s.den → 1 ≤ t.den → s.num * t.den ≡ t.num * s.den → s ≡ t
same_fraction s t rs rt ps pt h = go (common (s.den + t.den) s.num s.den t.num t.den (omega arith) ps pt h)
  where
    go : Common s.num s.den t.num t.den → s ≡ t
    go c =
        let l : c.left ≡ 1 = rs c.left c.top c.bottom c.a_is c.b_is in
        let r : c.right ≡ 1 = rt c.right c.top c.bottom c.c_is c.d_is in
        let n : s.num ≡ t.num = c.a_is ∙ ap (λ (k : ℕ). k * c.top) (l ∙ sym r) ∙ sym c.c_is in
        let d : s.den ≡ t.den = c.b_is ∙ ap (λ (k : ℕ). k * c.bottom) (l ∙ sym r) ∙ sym c.d_is in
        λ i. record { num = n i; den = d i }

-- the order
pub below_trans : (s t u : Fraction) → 1 ≤ s.den → 1 ≤ u.den → Below s t → Below t u → Below s u
below_trans s t u ps pu h k =
    cancel_lt (s.num * u.den) (u.num * s.den) t.den
    (omega (arith, mul-lt-mul_of_pos_right h pu, mul-lt-mul_of_pos_right k ps))

pub not_above_below : (s t u : Fraction) → 1 ≤ s.den → NotAbove s t → Below t u → Below s u
not_above_below s t u ps h k =
    cancel_lt (s.num * u.den) (u.num * s.den) t.den
    (omega (arith, mul-le-mul_right u.den h, mul-lt-mul_of_pos_right k ps))

-- the mediant lies between
abbrev pub mid : Fraction → Fraction → Fraction
mid s t = record { num = s.num + t.num; den = s.den + t.den }

pub mid_fraction : (s t : Fraction) → IsFraction s → IsFraction t → IsFraction (mid s t)
mid_fraction s t hs ht = omega arith

-- a fraction strictly inside two stretches
pub record Shared (s a t b : Fraction) : Type 0 where
  pub at : Fraction
  pub frac : IsFraction at
  pub after_s : Below s at
  pub before_a : Below at a
  pub after_t : Below t at
  pub before_b : Below at b

-- two stretches, from s to a and from t to b, that overlap, have a fraction in common
pub overlap : (s a t b : Fraction) → IsFraction s → IsFraction a → IsFraction t → IsFraction b → Below s a → Below t b → Below s b → Below t a → Shared s a t b
overlap s a t b fs fa ft fb sa tb sb ta = go (dec_le (s.num * t.den) (t.num * s.den)) (dec_le (a.num * b.den) (b.num * a.den))
  where
    go : Dec (s.num * t.den ≤ t.num * s.den) → Dec (a.num * b.den ≤ b.num * a.den) → Shared s a t b
    go (yes h) (yes k) = record { at = mid t a; frac = mid_fraction t a ft fa; after_s = omega arith; before_a = omega arith; after_t = omega arith; before_b = omega arith }
    go (yes h) (no k) = record { at = mid t b; frac = mid_fraction t b ft fb; after_s = omega arith; before_a = omega arith; after_t = omega arith; before_b = omega arith }
    go (no h) (yes k) = record { at = mid s a; frac = mid_fraction s a fs fa; after_s = omega arith; before_a = omega arith; after_t = omega arith; before_b = omega arith }
    go (no h) (no k) = record { at = mid s b; frac = mid_fraction s b fs fb; after_s = omega arith; before_a = omega arith; after_t = omega arith; before_b = omega arith }
