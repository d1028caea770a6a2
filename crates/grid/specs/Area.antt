-- Boxes, and the squared distance of a position from a box.
-- Document 01, "The tree": "Each box is the smallest that holds what lies under it." Document 02, C-16: "the squared
-- distance is to be had by three cases per axis: below the box, within it, above it." The published definition is
-- MINDIST of Roussopoulos, Kelley and Vincent, Nearest Neighbor Queries, SIGMOD 1995, which document 002 cites for it
-- (section 4): the sum over the axes of |p - r|², for a point p, a box from s to t, and r by three cases.
-- Assumes nothing.
use Rattle.std.specs.Prelude.{cond, ℕ, ◌+◌, ◌*◌, ◌-◌, ◌≤◌, ltb}
use Rattle.limits.specs.Limits.{grid_width}
use Rattle.grid.specs.declared.Position.{Position}
use Rattle.grid.specs.declared.Area.{Area}

-- the position lies in the box, edges included
pub record Inside (b : Area) (p : Position) : Type 0 where
  pub west : b.west ≤ p.east
  pub east : p.east ≤ b.east
  pub south : b.south ≤ p.north
  pub north : p.north ≤ b.north

-- the box has a position in it, and lies on the grid
pub record AreaOnGrid (b : Area) : Type 0 where
  pub across : b.west ≤ b.east
  pub up : b.south ≤ b.north
  pub east : b.east ≤ grid_width
  pub north : b.north ≤ grid_width

-- |p - r| on one axis, where r is s if p < s, t if p > t, and p otherwise. Here s and t are lo and hi, p is x.
unfoldable pub outside : ℕ → ℕ → ℕ → ℕ
outside lo hi x =
    cond (ltb x lo) (lo - x)  -- below the box
    (cond (ltb hi x) (x - hi)  -- above it
    0)  -- within it

-- MINDIST: the squared distance of a position from a box
unfoldable pub area_distance : Area → Position → ℕ
area_distance b q =
    outside b.west b.east q.east * outside b.west b.east q.east
    + outside b.south b.north q.north * outside b.south b.north q.north

-- r itself on one axis, by the same cases
unfoldable pub nearest_on : ℕ → ℕ → ℕ → ℕ
nearest_on lo hi x =
    cond (ltb x lo) lo  -- below the box
    (cond (ltb hi x) hi  -- above it
    x)  -- within it

-- r on both axes: the position in the box that is exactly so far from q
unfoldable pub nearest_in : Area → Position → Position
nearest_in b q =
    record {
      east = nearest_on b.west b.east q.east;
      north = nearest_on b.south b.north q.north;
    }
