-- What two or three points say of every weight.
-- Assumes nothing.
use mathlib.Core.Path.{◌≡◌}
use Prim.Native.Nat.{ℕ, ◌+◌, ◌*◌, ◌≤◌, ◌<◌}
use native.Mathlib.Nat.{mul-add, mul-le-mul_left, mul-le-mul_right, mul-lt-mul_of_pos_left, mul-lt-mul_of_pos_right, lt_of_mul-lt-mul_right}
use native.Mathlib.Omega.{arith}
use Rattle.split.specs.Hull.{Point, value, rise, fall, RightBelow, Bends, Beats}

pub beats_refl : {m n : ℕ} (p : Point) → Beats m n p p
beats_refl p = record { low = omega arith; then_c = omega arith; then_order = omega arith }

pub beats_trans : {m n : ℕ} {p q r : Point} → Beats m n p q → Beats m n q r → Beats m n p r
beats_trans {m} {n} {p} {q} {r} f g =
    record {
      low = omega (arith, f.low, g.low);
      then_c = λ h. omega (arith, f.then_c (omega (arith, f.low, g.low)), g.then_c (omega (arith, f.low, g.low)));
      then_order = λ h k. let e : value m n q ≤ value m n p = omega (arith, f.low, g.low) in
          let e' : value m n r ≤ value m n q = omega (arith, f.low, g.low) in
          omega (arith, f.then_order e (omega (arith, g.then_c e')), g.then_order e' (omega (arith, f.then_c e)));
    }

pub mul_gap : (k x y d : ℕ) → y ≡ x + d → k * y ≡ k * x + k * d
mul_gap k x y d e = rw (e, mul-add)

-- The one bridge between values and differences.
pub gap : (m n : ℕ) {u v : Point} → RightBelow u v → value m n v + n * fall u v ≡ value m n u + m * rise u v
gap m n {u} {v} s =
    omega
    (arith, mul_gap m u.a v.a (rise u v) (omega (arith, s.right)), mul_gap n v.c u.c (fall u v) (omega (arith, s.down)))

turn_core : (m n x y p r : ℕ) → 0 < m → p * y < x * r → m * x ≤ n * y → m * p < n * r
turn_core m n x y p r pos h k =
    lt_of_mul-lt-mul_right y (omega (arith, mul-lt-mul_of_pos_left {k = m} h pos, mul-le-mul_right r k))

flat_core : (m n x y p r : ℕ) → 0 < r → x * r ≤ p * y → n * y < m * x → n * r < m * p
flat_core m n x y p r pos h k =
    lt_of_mul-lt-mul_right y (omega (arith, mul-le-mul_left m h, mul-lt-mul_of_pos_right {k = r} k pos))

-- At a turn, once v is as low as u, u is below s.
pub turn : (m n : ℕ) {s u v : Point} → 0 < m → RightBelow s u → RightBelow u v → Bends s u v → value m n v ≤ value m n u → value m n u < value m n s
turn m n {s} {u} {v} pos f g t h =
    let k : m * rise s u < n * fall s u = turn_core m n (rise u v) (fall u v) (rise s u) (fall s u) pos t (omega (arith, gap m n g, h)) in
    omega (arith, gap m n f, k)

-- With no turn, while u is below v, s is below u.
pub flat : (m n : ℕ) {s u v : Point} → RightBelow s u → RightBelow u v → rise u v * fall s u ≤ rise s u * fall u v → value m n u < value m n v → value m n s < value m n u
flat m n {s} {u} {v} f g t h =
    let k : n * fall s u < m * rise s u = flat_core m n (rise u v) (fall u v) (rise s u) (fall s u) (omega (arith, f.down)) t (omega (arith, gap m n g, h)) in
    omega (arith, gap m n f, k)

pub beats_less : {m n : ℕ} {p q : Point} → value m n p < value m n q → Beats m n p q
beats_less h = record { low = omega arith; then_c = omega arith; then_order = omega arith }

pub beats_down : {m n : ℕ} {p q : Point} → value m n p ≤ value m n q → p.c < q.c → Beats m n p q
beats_down h k = record { low = h; then_c = omega arith; then_order = omega arith }
