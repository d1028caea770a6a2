-- The squared distance of a position from a box: no position in the box is nearer, and one is exactly that far.
-- Document 02, C-16.
-- Assumes nothing.
use mathlib.Core.Path.{◌≡◌, ◌∙◌, refl, sym, ap, ap₂}
use Prim.Native.Nat.{ℕ, ◌+◌, ◌*◌, ◌-◌, ◌≤◌, ◌<◌}
use native.Mathlib.Omega.{arith}
use native.Mathlib.Decide.{dec_lt}
use native.Mathlib.Nat.{mul-le-mul}
use borrow.Author.Tests.{lt-ltb, le-ltb}
use Rattle.limits.specs.Limits.{grid_width, max_square}
use Rattle.grid.specs.declared.Position.{Position}
use Rattle.grid.specs.declared.Area.{Area}
use Rattle.grid.specs.Position.{squared_difference, distance}
use Rattle.grid.specs.Area.{Inside, outside, area_distance, nearest_on, nearest_in}
use Rattle.grid.proofs.Squares.{square_most}

-- one axis, case by case: nothing from lo to hi is nearer than outside, and nearest_on, which lies there, is so far
module _ (lo hi x : ℕ) where
  axis_by : (p : ℕ) → lo ≤ p → p ≤ hi → Dec (x < lo) → Dec (hi < x)
      → (outside lo hi x ≤ (p - x) + (x - p)) × (lo ≤ nearest_on lo hi x) × (nearest_on lo hi x ≤ hi)
      × ((nearest_on lo hi x - x) + (x - nearest_on lo hi x) ≡ outside lo hi x)
  unfolding outside nearest_on
  axis_by p a b (yes u) _ = rw (lt-ltb x lo u) (omega arith)
  axis_by p a b (no u) (yes v) = rw (le-ltb x lo (omega arith), lt-ltb hi x v) (omega arith)
  axis_by p a b (no u) (no v) = rw (le-ltb x lo (omega arith), le-ltb hi x (omega arith)) (omega arith)

  outside_least : (p : ℕ) → lo ≤ p → p ≤ hi → outside lo hi x * outside lo hi x ≤ squared_difference p x
  unfolding squared_difference
  outside_least p a b =
      let k = (axis_by p a b (dec_lt x lo) (dec_lt hi x)).0 in
      mul-le-mul k k

  module _ (h : lo ≤ hi) where
    nearest_inside : (lo ≤ nearest_on lo hi x) × (nearest_on lo hi x ≤ hi)
    nearest_inside =
        let k = axis_by lo (omega arith) h (dec_lt x lo) (dec_lt hi x) in
        (k.1, k.2)

    nearest_far : (nearest_on lo hi x - x) + (x - nearest_on lo hi x) ≡ outside lo hi x
    nearest_far = (axis_by lo (omega arith) h (dec_lt x lo) (dec_lt hi x)).3

    nearest_square : squared_difference (nearest_on lo hi x) x ≡ outside lo hi x * outside lo hi x
    unfolding squared_difference
    nearest_square = ap (λ (y : ℕ). y * y) nearest_far

-- NO POSITION IN THE BOX IS NEARER
pub no_nearer : (b : Area) (p q : Position) → Inside b p → area_distance b q ≤ distance p q
unfolding area_distance distance
no_nearer b p q h =
    omega (
      arith,
      outside_least b.west b.east q.east p.east (omega (arith, h)) (omega (arith, h)),
      outside_least b.south b.north q.north p.north (omega (arith, h)) (omega (arith, h)),
    )

-- AND ONE IS EXACTLY THAT FAR: nearest_in b q
pub one_as_near : (b : Area) (q : Position) → b.west ≤ b.east → b.south ≤ b.north
    → Inside b (nearest_in b q) × (distance (nearest_in b q) q ≡ area_distance b q)
unfolding area_distance nearest_in distance
one_as_near b q g k =
    let across = nearest_inside b.west b.east q.east g in
    let up = nearest_inside b.south b.north q.north k in (
      record {
        west = omega (arith, across);
        east = omega (arith, across);
        south = omega (arith, up);
        north = omega (arith, up);
      },
      omega (arith, nearest_square b.west b.east q.east g, nearest_square b.south b.north q.north k),
    )

-- a box of one position is as far as that position: no other is in it
pub point_far : (b : Area) (q : Position) → b.east ≡ b.west → b.north ≡ b.south
    → area_distance b q ≡ distance (record { east = b.west; north = b.south }) q
point_far b q h k =
    let n = one_as_near b q (omega arith) (omega arith) in
    let e : (nearest_in b q).east ≡ b.west = omega (arith, h, n.0) in
    let f : (nearest_in b q).north ≡ b.south = omega (arith, k, n.0) in
    sym n.1 ∙ ap₂ (λ (x y : ℕ). distance (record { east = x; north = y }) q) e f

-- within the box
module _ (lo hi x : ℕ) where
  pub outside_within : lo ≤ x → x ≤ hi → 0 ≡ outside lo hi x
  unfolding outside
  outside_within h k = rw (le-ltb x lo h, le-ltb hi x k) refl

  -- and their square
  pub outside_square : (d : ℕ) → d ≡ outside lo hi x → lo ≤ hi → hi ≤ grid_width → x ≤ grid_width
      → (d * d ≡ outside lo hi x * outside lo hi x) × (d * d ≤ max_square)
  outside_square d e h k l =
      (rw e refl, square_most d (omega (arith, nearest_inside lo hi x h, nearest_far lo hi x h)))

-- at an edge it is the same whether it counts as within the box, as here, or as beyond it
pub at_an_edge : (lo hi : ℕ) → lo ≤ hi → (outside lo hi lo ≡ lo - lo) × (outside lo hi hi ≡ hi - hi)
at_an_edge lo hi h =
    (omega (arith, outside_within lo hi lo (omega arith) h), omega (arith, outside_within lo hi hi h (omega arith)))
