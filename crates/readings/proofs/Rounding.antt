-- The nearest step to a / c metres: that it is the nearest, that it is the only one, and how a remainder by 100 finds
-- it.
-- Assumes nothing.
use Rattle.std.proofs.Common.{◌≡◌, ℕ, suc, ◌+◌, ◌*◌, ◌/◌, ◌%◌, ◌<◌, ◌≤◌, sym, le_of_suc-le-suc, mod-lt, mul_comm, div-lt_iff_lt-mul, le_antisymm, le-div_iff_mul-le, arith, refl}
use native.Mathlib.Nat.{div-add-mod, div-div-eq-div-mul, add-mul-div_right}
use lib.Ieee.Nearest.{div_same}
use Rattle.readings.specs.Reading.{Nearest, nearest_step}

-- k is the quotient of n by z
quotient : (n z k : ℕ) → 0 < z → k * z ≤ n → n < suc k * z → k ≡ n / z
quotient n z k h a b = le_antisymm ((le-div_iff_mul-le h).1 a) (le_of_suc-le-suc ((div-lt_iff_lt-mul h).1 b))

-- there is ONE nearest step
pub nearest_only : (a c k : ℕ) → 0 < c → Nearest a c k → k ≡ nearest_step a c
unfolding nearest_step
nearest_only a c k h n = quotient (a + 50 * c) (100 * c) k (omega arith) (omega (arith, n.below)) (omega (arith, n.above, n.half))

-- and `nearest_step` is it
pub nearest_is : (a c : ℕ) → 0 < c → Nearest a c (nearest_step a c)
unfolding nearest_step
nearest_is a c h =
    let e = div-add-mod (a + 50 * c) (100 * c) in
    let l = mod-lt (a + 50 * c) {m = 100 * c} (omega arith) in
    record { below = omega arith; above = omega arith; half = λ g. omega arith }

-- it is the same for the same number of metres, however it is written
pub nearest_same : (a c b d : ℕ) → 0 < c → 0 < d → a * d ≡ b * c → nearest_step a c ≡ nearest_step b d
unfolding nearest_step
nearest_same a c b d C D e = div_same (a + 50 * c) (100 * c) (b + 50 * d) (100 * d) (omega arith) (omega arith) (omega arith)

-- the grid reaches to a half beyond its last step
pub reaches : (a c w : ℕ) → 0 < c → a < (100 * w + 50) * c → nearest_step a c ≤ w
unfolding nearest_step
reaches a c w h l =
    let z : 0 < 100 * c = omega arith in
    let g : a + 50 * c < suc w * (100 * c) = omega arith in
    le_of_suc-le-suc ((div-lt_iff_lt-mul z).1 g)

pub passes : (a c w : ℕ) → 0 < c → (100 * w + 50) * c ≤ a → w < nearest_step a c
unfolding nearest_step
passes a c w h l =
    let z : 0 < 100 * c = omega arith in
    let g : suc w * (100 * c) ≤ a + 50 * c = omega arith in
    (le-div_iff_mul-le z).1 g

-- what is left of the metres below a multiple of 100
hundreds : (a c : ℕ) → 0 < c → (100 * c) * (a / c / 100) + a % (100 * c) ≡ a
hundreds a c h = rw (div-div-eq-div-mul a c 100, mul_comm c 100) (div-add-mod a (100 * c))

-- BELOW THE HALF: the step below
pub rest_below : (a c : ℕ) → 0 < c → a % (100 * c) < 50 * c → a / c / 100 ≡ nearest_step a c
rest_below a c h l =
    let e = hundreds a c h in
    nearest_only a c (a / c / 100) h (record { below = omega arith; above = omega arith; half = λ g. omega arith })

-- ON IT OR ABOVE: the step above
pub rest_above : (a c : ℕ) → 0 < c → 50 * c ≤ a % (100 * c) → a / c / 100 + 1 ≡ nearest_step a c
rest_above a c h l =
    let e = hundreds a c h in
    let m = mod-lt a {m = 100 * c} (omega arith) in
    nearest_only a c (a / c / 100 + 1) h (record { below = omega arith; above = omega arith; half = λ g. omega arith })

-- the nearest step by the whole metres alone: what is left of a metre is less than the next half
by_metres : (a c : ℕ) → 0 < c → nearest_step a c ≡ (a / c + 50) / 100
unfolding nearest_step
by_metres a c h = rw (mul_comm 100 c, sym (div-div-eq-div-mul (a + 50 * c) c 100), add-mul-div_right a 50 h) refl

-- FEWER THAN 50 WHOLE METRES ARE LEFT: the step below
pub metres_below : (a c m : ℕ) → 0 < c → m ≡ a / c → m % 100 < 50 → m / 100 ≡ nearest_step a c
metres_below a c m h e l = omega (arith, e, by_metres a c h)

-- 50 OR MORE: the step above
pub metres_above : (a c m : ℕ) → 0 < c → m ≡ a / c → 50 ≤ m % 100 → m / 100 + 1 ≡ nearest_step a c
metres_above a c m h e l = omega (arith, e, by_metres a c h)

-- nothing is at step 0
pub nearest_zero : (c : ℕ) → 0 < c → nearest_step 0 c ≡ 0
nearest_zero c h = sym (nearest_only 0 c 0 h (record { below = omega arith; above = omega arith; half = λ g. omega arith }))
