-- Products of squared distances fit 64 bits.
-- Assumes nothing.
use Prim.Native.Nat.{ℕ, ◌+◌, ◌*◌, ◌-◌, ◌^◌, ◌<◌}
use native.Mathlib.Nat.{mul-le-mul}
use native.Mathlib.Omega.{arith}

product : {x y : ℕ} → x < 2 ^ 31 → y < 2 ^ 31 → x * y < 2 ^ 62
product {x} {y} h k = omega (arith, mul-le-mul {n₁ = x} {m₁ = y} {n₂ = 2 ^ 31 - 1} {m₂ = 2 ^ 31 - 1} (omega arith) (omega arith))

pub product_fits : {x y : ℕ} → x < 2 ^ 31 → y < 2 ^ 31 → x * y < 2 ^ 64
product_fits h k = omega (arith, product h k)

pub sum_fits : (x y z w : ℕ) → x < 2 ^ 31 → y < 2 ^ 31 → z < 2 ^ 31 → w < 2 ^ 31 → x * y + z * w < 2 ^ 64
sum_fits x y z w h k f g = omega (arith, product h k, product f g)
