-- A site that leads at two fractions leads at every one between them.
-- Assumes nothing.
use mathlib.Core.Path.{◌≡◌, ap}
use mathlib.Core.List.{List}
use Prim.Native.Nat.{ℕ, ◌+◌, ◌*◌, ◌≤◌}
use native.Mathlib.Nat.{mul-le-mul_left}
use native.Mathlib.Omega.{arith}
use Rattle.grid.specs.declared.Fraction.{Fraction}
use Rattle.grid.specs.declared.Leg.{Leg}
use Rattle.grid.specs.declared.Site.{Site}
use Rattle.grid.specs.Fraction.{IsFraction, Below}
use Rattle.grid.proofs.Order.{cancel_le, cancel_eq, below_trans}
use Rattle.split.specs.SplitList.{distance_at, Leads}
use Rattle.split.proofs.Weights.{Mix, mix, at_le, at_far, at_eq, at_far_eq}

-- numbers: a mix of two orders
mixed_le : (a b c p1 q1 p2 q2 p3 q3 : ℕ) → 1 ≤ c
    → c * p2 ≡ a * p1 + b * p3 → c * q2 ≡ a * q1 + b * q3
    → p1 ≤ q1 → p3 ≤ q3 → p2 ≤ q2
mixed_le a b c p1 q1 p2 q2 p3 q3 pc hp hq h1 h3 =
    cancel_le p2 q2 c pc (omega (arith, mul-le-mul_left a h1, mul-le-mul_left b h3))

mixed_eq : (a b c p1 q1 p2 q2 p3 q3 : ℕ) → 1 ≤ a → 1 ≤ b
    → c * p2 ≡ a * p1 + b * p3 → c * q2 ≡ a * q1 + b * q3
    → p1 ≤ q1 → p3 ≤ q3 → p2 ≡ q2 → (p1 ≡ q1) × (p3 ≡ q3)
mixed_eq a b c p1 q1 p2 q2 p3 q3 pa pb hp hq h1 h3 e =
    let l1 : a * p1 ≤ a * q1 = mul-le-mul_left a h1 in
    let l3 : b * p3 ≤ b * q3 = mul-le-mul_left b h3 in
    let l2 : c * p2 ≡ c * q2 = ap (λ (x : ℕ). c * x) e in
    (cancel_eq p1 q1 a pa (omega arith), cancel_eq p3 q3 b pb (omega arith))

module _ (l : Leg) (t u v : Fraction) (ft : IsFraction t) (fu : IsFraction u) (fv : IsFraction v) (tu : Below t u) (uv : Below u v) where
  tv : Below t v
  tv = below_trans t u v ft.positive fv.positive tu uv

  middle : Mix l t u v
  middle = mix l t u v ft fu fv (omega arith) (omega arith) tv

  between_le : (w z : Site) → distance_at l t w ≤ distance_at l t z → distance_at l v w ≤ distance_at l v z → distance_at l u w ≤ distance_at l u z
  between_le w z h k =
      let r : Mix l t u v = middle in
      at_far l u fu w z
      (mixed_le r.a r.b r.c _ _ _ _ _ _ r.c_pos (r.mixed w) (r.mixed z) (at_le l t ft w z h) (at_le l v fv w z k))

  between_eq : (w z : Site) → distance_at l t w ≤ distance_at l t z → distance_at l v w ≤ distance_at l v z → distance_at l u w ≡ distance_at l u z
      → (distance_at l t w ≡ distance_at l t z) × (distance_at l v w ≡ distance_at l v z)
  between_eq w z h k e =
      let r : Mix l t u v = middle in
      let d = mixed_eq r.a r.b r.c _ _ _ _ _ _ (r.a_pos uv) (r.b_pos tu) (r.mixed w) (r.mixed z) (at_le l t ft w z h) (at_le l v fv w z k) (at_eq l u fu w z e) in
      (at_far_eq l t ft w z d.0, at_far_eq l v fv w z d.1)

  -- A SITE THAT LEADS AT TWO FRACTIONS leads between them
  pub leads_between : (s : List Site) (p : Site) → Leads l s t p → Leads l s v p → Leads l s u p
  leads_between s p h k =
      record {
        held = h.held;
        nearest = λ q m. between_le p q (h.nearest q m) (k.nearest q m);
        least = λ q m e. h.least q m (between_eq p q (h.nearest q m) (k.nearest q m) e).0;
      }
