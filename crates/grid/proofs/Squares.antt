-- Squared differences: their bounds, and the square of a difference with no difference in it.
-- Assumes nothing.
use mathlib.Core.Path.{◌≡◌, refl, ap}
use Prim.Native.Nat.{ℕ, ◌+◌, ◌*◌, ◌-◌, ◌≤◌}
use native.Mathlib.Omega.{arith}
use native.Mathlib.Decide.{dec_le}
use native.Mathlib.Nat.{mul-le-mul}
use Rattle.limits.specs.Limits.{grid_width, max_square, max_distance}
use Rattle.grid.specs.declared.Position.{Position}
use Rattle.grid.specs.Position.{OnGrid, squared_difference, distance}

pub square_most : (d : ℕ) → d ≤ grid_width → d * d ≤ max_square
square_most d h = mul-le-mul {n₁ = d} {m₁ = d} {n₂ = grid_width} {m₂ = grid_width} h h

pub difference_most : (a b : ℕ) → a ≤ grid_width → b ≤ grid_width → squared_difference a b ≤ max_square
unfolding squared_difference
difference_most a b ha hb = square_most ((a - b) + (b - a)) (omega arith)

pub distance_most : (p q : Position) → OnGrid p → OnGrid q → distance p q ≤ max_distance
unfolding distance
distance_most p q hp hq =
    omega
    (arith, difference_most p.east q.east hp.east hq.east, difference_most p.north q.north hp.north hq.north)

-- the square of a difference
pub difference_of : (x y d : ℕ) → d ≡ (x - y) + (y - x) → x ≤ grid_width → y ≤ grid_width → (d * d ≡ squared_difference x y) × (d * d ≤ max_square)
unfolding squared_difference
difference_of x y d e h k = (rw e refl, square_most d (omega arith))

gap_up : (a k : ℕ) → squared_difference a (a + k) ≡ k * k
unfolding squared_difference
gap_up a k =
    let e : (a - (a + k)) + ((a + k) - a) ≡ k = omega arith in
    ap (λ (x : ℕ). x * x) e

gap_down : (b k : ℕ) → squared_difference (b + k) b ≡ k * k
unfolding squared_difference
gap_down b k =
    let e : ((b + k) - b) + (b - (b + k)) ≡ k = omega arith in
    ap (λ (x : ℕ). x * x) e

-- (a - b)² + 2ab = a² + b²
pub difference_expanded : (a b : ℕ) → squared_difference a b + 2 * (a * b) ≡ a * a + b * b
difference_expanded a b = go (dec_le a b)
  where
    up : (k : ℕ) → b ≡ a + k → squared_difference a b + 2 * (a * b) ≡ a * a + b * b
    up k e = rw e (omega (arith, gap_up a k))

    down : (k : ℕ) → a ≡ b + k → squared_difference a b + 2 * (a * b) ≡ a * a + b * b
    down k e = rw e (omega (arith, gap_down b k))

    go : Dec (a ≤ b) → squared_difference a b + 2 * (a * b) ≡ a * a + b * b
    go (yes h) = up (b - a) (omega arith)
    go (no h) = down (a - b) (omega arith)
