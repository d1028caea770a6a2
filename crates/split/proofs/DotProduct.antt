-- Document 01's own form of "nearer", by the dot product, says the same as the squared distances at t.
-- Assumes nothing.
use mathlib.Core.Path.{◌≡◌, ap}
use Prim.Native.Nat.{ℕ, ◌+◌, ◌*◌, ◌-◌, ◌<◌}
use native.Mathlib.Omega.{arith}
use Rattle.grid.specs.declared.Site.{Site}
use Rattle.grid.specs.declared.Leg.{Leg}
use Rattle.grid.specs.declared.Fraction.{Fraction}
use Rattle.grid.specs.Position.{distance}
use Rattle.grid.specs.Fraction.{IsFraction}
use Rattle.grid.proofs.Squares.{difference_expanded}
use Rattle.split.specs.SplitList.{distance_at}
use Rattle.split.specs.DotProduct.{plus, minus, NearerByDot}
use Rattle.split.specs.Hull.{weigh, weigh_at}
use Rattle.split.proofs.Weights.{at_lt, at_nearer}

one_axis : (p s e c a d : ℕ) → c + 2 * (p * e) ≡ p * p + e * e → a + 2 * (p * s) ≡ p * p + s * s → d + 2 * (s * e) ≡ s * s + e * e
    → c + 2 * (p * e + s * s) ≡ a + 2 * (p * s + s * e) + d
one_axis p s e c a d hc ha hd = omega arith

-- C + plus = A + minus + |E - S|²
by_dot : (l : Leg) (p : Site) → distance p.position l.e + plus l p ≡ distance p.position l.s + minus l p + distance l.s l.e
unfolding distance
by_dot l p =
    omega (
      arith,
      one_axis p.position.east l.s.east l.e.east _ _ _ (difference_expanded p.position.east l.e.east) (difference_expanded p.position.east l.s.east) (difference_expanded l.s.east l.e.east),
      one_axis p.position.north l.s.north l.e.north _ _ _ (difference_expanded p.position.north l.e.north) (difference_expanded p.position.north l.s.north) (difference_expanded l.s.north l.e.north),
    )

weighed : (m n a c d x y : ℕ) → c + x ≡ a + y + d → m * a + n * c + n * x ≡ (m + n) * a + n * y + n * d
weighed m n a c d x y h = omega (arith, ap (λ (z : ℕ). n * z) h)

module _ (l : Leg) (t : Fraction) (f : IsFraction t) where
  weighed_at : (p : Site) → weigh_at l t p + t.num * plus l p ≡ t.den * distance p.position l.s + t.num * minus l p + t.num * distance l.s l.e
  unfolding weigh_at weigh
  weighed_at p =
      let k : (t.den - t.num) + t.num ≡ t.den = omega (arith, f.within) in
      rw k at (weighed (t.den - t.num) t.num (distance p.position l.s) (distance p.position l.e) (distance l.s l.e) (plus l p) (minus l p) (by_dot l p))

  -- NEARER EXACTLY WHEN A(p) - tB(p) < A(q) - tB(q)
  pub nearer_by_dot : (p q : Site) → (distance_at l t p < distance_at l t q → NearerByDot l t p q) × (NearerByDot l t p q → distance_at l t p < distance_at l t q)
  nearer_by_dot p q = (
    (λ h. omega (arith, at_lt l t f p q h, weighed_at p, weighed_at q)),
    (λ h. at_nearer l t f p q (omega (arith, weighed_at p, weighed_at q))),
  )
