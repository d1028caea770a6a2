-- What tests ask of one reading: its coordinate, or that it is not finite.
-- Assumes nothing.
use Rattle.std.specs.Prelude.{◌≡◌, cond, ℕ, ◌≤◌, T}
use Rattle.std.specs.Float.Ieee.Positive.{num, den}
use Rattle.limits.specs.Limits.{grid_width}
use Rattle.readings.specs.Reading.{finite?, coordinate_of, Within}
use Rattle.readings.specs.Location.{sign_of, number_of}

-- the coordinate of a pattern's reading, or 65,536 where it is not finite
unfoldable pub probed : ℕ → ℕ
probed b = cond (finite? b) (coordinate_of b) 65536

-- r is that; and on the grid it is within 50 m of the reading
pub record Probed (b r : ℕ) : Type 0 where
  pub is : r ≡ probed b
  pub within : T (finite? b) → r ≤ grid_width → Within (sign_of (number_of b)) (num (number_of b)) (den (number_of b)) r
