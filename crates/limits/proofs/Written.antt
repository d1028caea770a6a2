-- The derived limits as document 02 writes them (C-12), and which words hold them.
-- Assumes nothing.
use mathlib.Core.Path.{◌≡◌, refl}
use Prim.Native.Nat.{◌^◌, ◌<◌}
use native.Mathlib.Omega.{arith}
use Rattle.limits.specs.Limits.{grid_width, max_distance, max_denominator, max_comparison}

-- a coordinate, counted from the corner, fits 15 bits
pub width_most : (grid_width ≡ 24000) × (grid_width < 2 ^ 15)
width_most = (refl, omega arith)

-- a squared distance fits 31 bits
pub distance_most : (max_distance ≡ 1152000000) × (max_distance < 2 ^ 31)
distance_most = (refl, omega arith)

-- "denominators reach 2,304,000,000 at most": that fits 32 bits, and not 31
pub denominator_most : (max_denominator ≡ 2304000000) × (max_denominator < 2 ^ 32) × (2 ^ 31 < max_denominator)
denominator_most = (refl, omega arith, omega arith)

-- a product in a comparison of fractions fits 63 bits
pub comparison_most : (max_comparison ≡ 5308416000000000000) × (max_comparison < 2 ^ 63)
comparison_most = (refl, omega arith)
