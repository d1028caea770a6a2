-- A fraction divided by the greatest common factor has none left; and the loop of `gcd`.
-- Assumes nothing.
use mathlib.Core.Path.{◌≡◌, ap, sym, ◌∙◌}
use Prim.Native.Nat.{ℕ, zero, suc, ◌*◌, ◌/◌, ◌≤◌, ◌<◌}
use native.Mathlib.Omega.{arith}
use native.Mathlib.Nat.{mul-div_cancel_left}
use Rattle.grid.specs.declared.Fraction.{Fraction}
use Rattle.grid.specs.Fraction.{Reduced, Divides, IsGcd, IsLowest, gcd_of, lowest}
use Rattle.grid.proofs.Order.{cancel_eq}
use Rattle.grid.proofs.Factors.{SameFactors, factor_one, done, gcd_is, gcd_one, gcd_flip}

-- divided by it, a fraction has no common factor
pub divided : (n d g : ℕ) (t : Fraction) → 1 ≤ d → IsGcd n d g → n ≡ g * t.num → d ≡ g * t.den → Reduced t
divided n d zero t p h en ed k a b ea eb = absurd (omega arith)
divided n d (suc g) t p h en ed k a b ea eb =
    let r = h.greatest (suc g * k)
    (record { times = a; is = en ∙ (omega (arith, ap (λ (y : ℕ). suc g * y) ea)) })
    (record { times = b; is = ed ∙ (omega (arith, ap (λ (y : ℕ). suc g * y) eb)) }) in
    factor_one k r.times (cancel_eq 1 (k * r.times) (suc g) (omega arith) (omega (arith, r.is)))

pub gcd_pos : (n d g : ℕ) → 1 ≤ d → IsGcd n d g → 1 ≤ g
gcd_pos n d zero p h = absurd (omega (arith, h.right.is))
gcd_pos n d (suc g) p h = omega arith

-- a factor times the quotient
quotient : (k n : ℕ) → 1 ≤ k → Divides k n → n ≡ k * (n / k)
quotient k n p h = h.is ∙ ap (λ (y : ℕ). k * y) (sym (mul-div_cancel_left h.times p) ∙ ap (λ (y : ℕ). y / k) (sym h.is))

-- LOWEST TERMS: reduced, and proportional
pub lowest_is : (n d : ℕ) → 1 ≤ d → IsLowest n d (lowest n d)
unfolding lowest
lowest_is n d p =
    let g : IsGcd n d (gcd_of n d) = gcd_is n d in
    let pg : 1 ≤ gcd_of n d = gcd_pos n d (gcd_of n d) p g in
    let en : n ≡ gcd_of n d * (n / gcd_of n d) = quotient (gcd_of n d) n pg g.left in
    let ed : d ≡ gcd_of n d * (d / gcd_of n d) = quotient (gcd_of n d) d pg g.right in
    record {
      by = gcd_of n d;
      positive = pg;
      num_is = en;
      den_is = ed;
      reduced = divided n d (gcd_of n d) (record { num = n / gcd_of n d; den = d / gcd_of n d }) p g en ed;
    }

-- the loop's end
pub gcd_done : (a b x y : ℕ) → y ≡ 0 → SameFactors a b x y → x ≡ gcd_of a b
gcd_done a b x y h s = gcd_one a b x (done a b x (rw h at s))

pub gcd_positive : (n d f : ℕ) → 0 < d → f ≡ gcd_of d n → 0 < f
gcd_positive n d f h e = omega (arith, gcd_flip n d, gcd_pos n d (gcd_of n d) h (gcd_is n d))

pub lowest_by : (n d f : ℕ) → f ≡ gcd_of d n → ◌≡◌ {A = Fraction} (record { num = n / f; den = d / f }) (lowest n d)
unfolding lowest
lowest_by n d f e = let q : f ≡ gcd_of n d = e ∙ gcd_flip n d in λ i. record { num = n / q i; den = d / q i }
