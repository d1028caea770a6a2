-- Squared distances and dot products on the grid keep within their bounds.
-- Assumes nothing.
use mathlib.Core.Path.{◌≡◌, ap}
use Prim.Native.Nat.{ℕ, ◌+◌, ◌*◌, ◌-◌, ◌≤◌}
use native.Mathlib.Nat.{mul-le-mul}
use native.Mathlib.Omega.{arith}
use Rattle.limits.specs.Limits.{grid_width, max_square}
use Rattle.grid.specs.declared.Leg.{Leg}
use Rattle.grid.specs.declared.Site.{Site}
use Rattle.grid.specs.Position.{OnGrid, LegOnGrid, distance}
use Rattle.grid.proofs.Squares.{distance_most}
use Rattle.split.specs.DotProduct.{plus, minus}
use Rattle.split.specs.Bounds.{Bounded}

pub product_most : (b x y : ℕ) → x ≤ b → y ≤ b → x * y ≤ b * b
product_most b x y h k = mul-le-mul {n₁ = x} {m₁ = y} {n₂ = b} {m₂ = b} h k

-- (p - s)(e - s), where p is b above s or a below it, and e is d above it or c below it
crossed : (p s e a b c d : ℕ) → p + a ≡ s + b → e + c ≡ s + d → p * e + s * s + (a * d + b * c) ≡ p * s + s * e + (b * d + a * c)
crossed p s e a b c d u v =
    let pe : (p + a) * e ≡ (s + b) * e = ap (λ (x : ℕ). x * e) u in
    let se : s * (e + c) ≡ s * (s + d) = ap (λ (x : ℕ). s * x) v in
    let be : b * (e + c) ≡ b * (s + d) = ap (λ (x : ℕ). b * x) v in
    let ae : a * (e + c) ≡ a * (s + d) = ap (λ (x : ℕ). a * x) v in
    let ps : (p + a) * s ≡ (s + b) * s = ap (λ (x : ℕ). x * s) u in
    omega arith

-- on one axis it lies between -gridWidth² and gridWidth²
abbrev Within : ℕ → ℕ → ℕ → Type 0
Within p s e = (p * e + s * s ≤ p * s + s * e + max_square) × (p * s + s * e ≤ p * e + s * s + max_square)

axis : (p s e : ℕ) → p ≤ grid_width → s ≤ grid_width → e ≤ grid_width → Within p s e
axis p s e hp hs he = go (s - p) (p - s) (s - e) (e - s) (omega arith) (omega arith) (omega arith) (omega arith)
  where
    go : (a b c d : ℕ) → p + a ≡ s + b → e + c ≡ s + d → a + b ≤ grid_width → c + d ≤ grid_width → Within p s e
    go a b c d u v x y =
        let k : (a + b) * (c + d) ≤ max_square = product_most grid_width (a + b) (c + d) x y in
        (omega (arith, crossed p s e a b c d u v), omega (arith, crossed p s e a b c d u v))

-- EVERY SITE AND LEG ON THE GRID
pub on_grid_bounded : (l : Leg) (p : Site) → LegOnGrid l → OnGrid p.position → Bounded l p
on_grid_bounded l p hl hp =
    let a : Within p.position.east l.s.east l.e.east = axis _ _ _ hp.east hl.s.east hl.e.east in
    let b : Within p.position.north l.s.north l.e.north = axis _ _ _ hp.north hl.s.north hl.e.north in
    record {
      from_s = distance_most p.position l.s hp hl.s;
      from_e = distance_most p.position l.e hp hl.e;
      dot_above = omega arith;
      dot_below = omega arith;
    }

-- the same as numbers
pub bounded_fits : (l : Leg) (p : Site) → Bounded l p
    → (distance p.position l.s ≤ 1152000000)
    × (distance p.position l.e ≤ 1152000000)
    × (plus l p ≤ minus l p + 2304000000)
    × (minus l p ≤ plus l p + 2304000000)
bounded_fits l p h = (h.from_s, h.from_e, h.dot_above, h.dot_below)
