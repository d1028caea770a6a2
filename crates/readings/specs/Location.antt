-- Readings as the code has them, and as they stand in bytes. `Reading` and `Location` are the code's own
-- (src/lib.rt). `Float` is the logic's account of IEEE 754: `fin s m e` is m * 2 ^ e, negative where s is true, and
-- 2 ^ e is the fraction up e / down e; `num` and `den` are its size as one fraction.
-- Assumes nothing.
use Rattle.std.specs.Prelude.{◌≡◌, ℕ, ◌+◌, ◌*◌, ◌≤◌, Bool, true, false, cond, ◌&&◌, List, from_bits, Float, Option, None, Some}
use Rattle.std.specs.Float.{nan, inf, fin, binary32}
use Rattle.std.specs.Float.Ieee.Scale.{finite}
use Rattle.std.specs.Float.Ieee.Positive.{num, den}
use Rattle.limits.specs.Limits.{grid_width}
use Rattle.words.specs.Words.{word_at}
use Rattle.grid.specs.declared.Position.{Position}
use Rattle.grid.specs.Coordinate.{from_word}
use Rattle.readings.specs.declared.Reading.{Reading}
use Rattle.readings.specs.declared.Location.{Location}
use Rattle.readings.specs.declared.Location.TheVariants.{InSteps, InMetres}
use Rattle.readings.specs.Reading.{finite?, nearest_step, kept, step_word, Within}

-- ---- one reading

-- the sign of a finite number
abbrev pub sign_of : Float → Bool
sign_of nan = false
sign_of (inf s) = false
sign_of (fin s m e) = s

-- the steps of a finite number's size, or 32,767 off the grid
unfoldable pub steps_of : Float → ℕ
steps_of x = kept (nearest_step (num x) (den x))

-- the coordinate of a finite number of metres
unfoldable pub coordinate_in : Float → ℕ
coordinate_in x = from_word (step_word (sign_of x) (nearest_step (num x) (den x)))

-- r is the coordinate of x: the nearest step's, within 50 m of x where it is on the grid
pub record Rounded (x : Float) (r : ℕ) : Type 0 where
  pub is : r ≡ coordinate_in x
  pub within : r ≤ grid_width → Within (sign_of x) (num x) (den x) r

-- ---- two readings

-- the position of two readings
abbrev pub position_of : Reading → Position
position_of r = record { east = coordinate_in r.easting; north = coordinate_in r.northing }

-- p is that position, with the bound of 50 m on each axis
pub record Stepped (r : Reading) (p : Position) : Type 0 where
  pub east : Rounded r.easting p.east
  pub north : Rounded r.northing p.north

-- both are finite
abbrev pub both_finite : Reading → Bool
both_finite r = finite r.easting && finite r.northing

-- ---- a command's position: "either steps or a pair of receiver readings"

-- its readings, if it has any, are finite
abbrev pub finite_in : Location → Bool
finite_in (InSteps p) = true
finite_in (InMetres r) = both_finite r

-- where it is, in steps
abbrev pub placed : Location → Position
placed (InSteps p) = p
placed (InMetres r) = position_of r

-- the same, where the readings are finite
unfoldable pub located_at : Location → Option Position
located_at l = cond (finite_in l) (Some (placed l)) None

-- ---- in bytes

-- the 32-bit number at byte i
unfoldable pub long_at : List ℕ → ℕ → ℕ
long_at s i = word_at s i + 65536 * word_at s (i + 2)

-- the number that a pattern stands for where it is finite; every other stands for no number
unfoldable pub number_of : ℕ → Float
number_of b = cond (finite? b) (from_bits binary32 b) nan

-- the readings at byte i: easting, northing
abbrev pub reading_at : List ℕ → ℕ → Reading
reading_at s i = record { easting = number_of (long_at s i); northing = number_of (long_at s (i + 4)) }
