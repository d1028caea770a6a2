-- What C-15 promises of a reading, for every pattern of 32 bits: "Each reading goes to the nearest step of 100 m,
-- exact halves away from zero, so that it lies within 50 m of the step exactly, with no error of its own; negative zero
-- is step 0." (proofs/Laws.antt, `every_pattern`).
-- Assumes nothing.
use Rattle.std.specs.Prelude.{◌≡◌, ℕ, ◌+◌, ◌-◌, ◌*◌, ◌<◌, ◌≤◌, Bool, true, false, T}
use Rattle.std.specs.Float.Ieee.Exact.{HasValue}
use Rattle.std.specs.Float.Ieee.Scale.{finite}
use Rattle.limits.specs.Limits.{half_width, grid_width}
use Rattle.grid.specs.Coordinate.{from_word}
use Rattle.readings.specs.Reading.{negative, finite?, metre, units, Nearest, beyond_step, Within}
use Rattle.readings.specs.Location.{coordinate_in, number_of}

-- the coordinate of a step on the grid, east or west of its middle (north or south of it)
abbrev pub sided : Bool → ℕ → ℕ
sided false k = half_width + k
sided true k = half_width - k

-- a finite pattern b, as the code has it, and the coordinate x that the code gives it
pub record RoundsTo (b x : ℕ) : Type 0 where
  -- "with no error of its own": the float is the pattern's number, units / metre with the sign
  pub value : HasValue (number_of b) (negative b) (units b) metre
  -- the nearest step, and there is one alone
  pub step : ℕ
  pub nearest : Nearest (units b) metre step
  pub only : (k : ℕ) → Nearest (units b) metre k → k ≡ step
  -- "exact halves away from zero"
  pub half : (k : ℕ) → units b ≡ 100 * k * metre + 50 * metre → step ≡ k + 1
  -- "The grid limit is tested on the step"
  pub on_grid : step ≤ half_width → x ≡ sided (negative b) step
  pub off_grid : half_width < step → x ≡ from_word beyond_step
  -- "it lies within 50 m of the step exactly"
  pub within : x ≤ grid_width → Within (negative b) (units b) metre x

-- every pattern
pub record Receives (b : ℕ) : Type 0 where
  -- "a reading is not finite"
  pub is_finite : finite (number_of b) ≡ finite? b
  pub rounds : T (finite? b) → RoundsTo b (coordinate_in (number_of b))
