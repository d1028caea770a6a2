-- Positions, sites and legs; squared distance. Document 01, "Grid and sites". A coordinate is counted in steps from
-- the grid's south-west corner, so that all numbers are natural; differences stay what they were. `Position`, `Site`
-- and `Leg` are the code's own structs (src/lib.rt).
-- Assumes nothing.
use Rattle.std.specs.Prelude.{ℕ, ◌+◌, ◌*◌, ◌-◌, ◌≤◌}
use Rattle.limits.specs.Limits.{grid_width}
use Rattle.grid.specs.declared.Position.{Position}
use Rattle.grid.specs.declared.Leg.{Leg}

-- "A position is a pair (easting, northing) of whole numbers"; document 02, C-12: "Coordinates run from -12,000 to
-- 12,000"
pub record OnGrid (p : Position) : Type 0 where
  pub east : p.east ≤ grid_width
  pub north : p.north ≤ grid_width

-- "A leg runs from S to E; both are positions"
pub record LegOnGrid (l : Leg) : Type 0 where
  pub s : OnGrid l.s
  pub e : OnGrid l.e

-- the square of the difference of two numbers
unfoldable pub squared_difference : ℕ → ℕ → ℕ
squared_difference a b = ((a - b) + (b - a)) * ((a - b) + (b - a))

-- "Distance is compared squared: the sum of the two squared differences."
unfoldable pub distance : Position → Position → ℕ
distance p q = squared_difference p.east q.east + squared_difference p.north q.north
