-- Two pairs reduced in step by Euclid's rule: the functions of `gcd_two`.
-- Assumes nothing.
use mathlib.Core.Path.{◌≡◌, refl}
use mathlib.Core.Logic.{◌≢◌}
use Prim.Native.Nat.{ℕ, zero, suc, ◌+◌, ◌≤◌, ◌<◌}
use Rattle.std.specs.Prelude.{max}
use native.Mathlib.Omega.{arith}
use Rattle.grid.specs.Fraction.{gcd_of}
use Rattle.grid.specs.Euclid.{NearestRest, Stepped, divisor_of, kept_of}
use Rattle.grid.proofs.Factors.{SameFactors, same, step_near}
use Rattle.grid.proofs.LowestTerms.{gcd_done}

-- the return of `divisor_of`
pub divisor_max : (y : ℕ) → max y 1 ≡ divisor_of y
unfolding divisor_of
divisor_max zero = refl
divisor_max (suc y) = omega arith

pub divisor_positive : (y m : ℕ) → m ≡ divisor_of y → 0 < m
unfolding divisor_of
divisor_positive zero m e = omega arith
divisor_positive (suc y) m e = omega arith

-- the return of `step`
pub stepped : (x y m u v : ℕ) → m ≡ divisor_of y → NearestRest x m v → u ≡ kept_of x y → Stepped x y u v
unfolding divisor_of kept_of
stepped x zero m u v e r f = record { ended = λ _. (f, omega (arith, e, r.below)); on = λ h. absurd (omega (arith, h)) }
stepped x (suc y) m u v e r f = record { ended = λ h. absurd (omega (arith, h)); on = λ _. (f, rw e at r) }

-- a step keeps the common factors
pub step_same : (a b x y u v : ℕ) → SameFactors a b x y → Stepped x y u v → SameFactors a b u v
step_same a b x zero u v s h = let e = h.ended refl in rw (e.0, e.1) s
step_same a b x (suc y) u v s h = let e = h.on (omega arith) in rw e.0 (step_near a b x (suc y) v (omega arith) e.1 s)

step_most : (x y u v : ℕ) → Stepped x y u v → v ≤ y
step_most x zero u v h = omega (arith, (h.ended refl).1)
step_most x (suc y) u v h = omega (arith, (h.on (omega arith)).1.below)

step_falls : (x y u v : ℕ) → 0 < y → Stepped x y u v → v < y
step_falls x y u v p h = (h.on p).1.below

-- what the loop of `gcd_two` keeps
pub record InStep (a b c d x y u v : ℕ) : Type 0 where
  pub first : SameFactors a b x y
  pub second : SameFactors c d u v
  pub most : y + v ≤ b + d

pub in_step : (a b c d : ℕ) → InStep a b c d a b c d
in_step a b c d = record { first = same a b; second = same c d; most = omega arith }

module _ (a b c d x y u v : ℕ) (g : InStep a b c d x y u v) where
  pub both_step : (x' y' u' v' : ℕ) → Stepped x y x' y' → Stepped u v u' v' → InStep a b c d x' y' u' v'
  both_step x' y' u' v' s t =
      record {
        first = step_same a b x y x' y' g.first s;
        second = step_same c d u v u' v' g.second t;
        most = omega (arith, g.most, step_most x y x' y' s, step_most u v u' v' t);
      }

  pub both_done : y + v ≡ 0 → (x ≡ gcd_of a b) × (u ≡ gcd_of c d)
  both_done e = (gcd_done a b x y (omega arith) g.first, gcd_done c d u v (omega arith) g.second)

pub both_fall : (x y u v x' y' u' v' : ℕ) → y + v ≢ 0 → Stepped x y x' y' → Stepped u v u' v' → y' + v' < y + v
both_fall x zero u zero x' y' u' v' h s t = absurd (h refl)
both_fall x zero u (suc v) x' y' u' v' h s t = omega (arith, step_most x 0 x' y' s, step_falls u (suc v) u' v' (omega arith) t)
both_fall x (suc y) u v x' y' u' v' h s t = omega (arith, step_falls x (suc y) x' y' (omega arith) s, step_most u v u' v' t)
