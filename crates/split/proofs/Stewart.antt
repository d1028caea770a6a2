-- Stewart's theorem, times the denominators: the squared distance from a point of the leg, by those from its two ends.
-- Assumes nothing.
use mathlib.Core.Path.{◌≡◌, ap}
use Prim.Native.Nat.{ℕ, ◌+◌, ◌*◌, ◌-◌}
use native.Mathlib.Omega.{arith}
use Rattle.grid.specs.declared.Leg.{Leg}
use Rattle.grid.specs.declared.Site.{Site}
use Rattle.grid.specs.Position.{squared_difference, distance}
use Rattle.grid.proofs.Squares.{difference_expanded}
use Rattle.split.specs.Hull.{weigh}
use Rattle.split.specs.SplitList.{along, distance_at}

module _ (m n p s e : ℕ) where
  cross : ((m + n) * p) * (m * s + n * e) ≡ m * m * (p * s) + n * n * (p * e) + m * n * (p * s + p * e)
  cross = omega arith

  square_site : ((m + n) * p) * ((m + n) * p) ≡ m * m * (p * p) + n * n * (p * p) + 2 * (m * n * (p * p))
  square_site = omega arith

  square_leg : (m * s + n * e) * (m * s + n * e) ≡ m * m * (s * s) + n * n * (e * e) + 2 * (m * n * (s * e))
  square_leg = omega arith

  -- the square of the difference, multiplied out by the weights
  spread : (x : ℕ)
      → x + 2 * (((m + n) * p) * (m * s + n * e)) ≡ ((m + n) * p) * ((m + n) * p) + (m * s + n * e) * (m * s + n * e)
      → x + 2 * (m * m * (p * s)) + 2 * (n * n * (p * e)) + 2 * (m * n * (p * s + p * e))
      ≡ m * m * (p * p + s * s) + n * n * (p * p + e * e) + 2 * (m * n * (p * p + s * e))
  spread x h =
      let k : x + 2 * (m * m * (p * s) + n * n * (p * e) + m * n * (p * s + p * e))
      ≡ (m * m * (p * p) + n * n * (p * p) + 2 * (m * n * (p * p))) + (m * m * (s * s) + n * n * (e * e) + 2 * (m * n * (s * e)))
      = rw (cross, square_site, square_leg) at h in
      omega arith

one_way : (m n p s e x l a c : ℕ)
    → x + 2 * (m * m * (p * s)) + 2 * (n * n * (p * e)) + 2 * (m * n * (p * s + p * e))
    ≡ m * m * (p * p + s * s) + n * n * (p * p + e * e) + 2 * (m * n * (p * p + s * e))
    → l + 2 * (s * e) ≡ s * s + e * e
    → a + 2 * (p * s) ≡ p * p + s * s
    → c + 2 * (p * e) ≡ p * p + e * e
    → x + m * n * l ≡ (m + n) * (m * a + n * c)
one_way m n p s e x l a c hx hl ha hc =
    let h : a + c + 2 * (p * s + p * e) ≡ l + 2 * (p * p + s * e) = omega arith in
    omega (
      arith,
      ap (λ (y : ℕ). (m * n) * y) h,
      ap (λ (y : ℕ). (m * m) * y) ha,
      ap (λ (y : ℕ). (n * n) * y) hc,
    )

-- Stewart's theorem in one coordinate
one_coordinate : (m n p s e : ℕ)
    → squared_difference ((m + n) * p) (m * s + n * e) + m * n * squared_difference s e ≡ (m + n) * (m * squared_difference p s + n * squared_difference p e)
one_coordinate m n p s e =
    one_way m n p s e _ _ _ _
    (spread m n p s e _ (difference_expanded ((m + n) * p) (m * s + n * e)))
    (difference_expanded s e)
    (difference_expanded p s)
    (difference_expanded p e)

pub stewart : (l : Leg) (m n : ℕ) (p : Site)
    → distance_at l (record { num = n; den = m + n }) p + m * n * distance l.s l.e ≡ (m + n) * weigh l m n p
unfolding distance_at along distance weigh
stewart l m n p =
    let k : (m + n) - n ≡ m = omega arith in
    rw k
    (omega (
      arith,
      one_coordinate m n p.position.east l.s.east l.e.east,
      one_coordinate m n p.position.north l.s.north l.e.north,
    ))
