-- What a satellite receiver shows: a 32-bit IEEE 754 number of metres, as an exact number, and its nearest step of
-- 100 m. Document 02, C-15: "Each reading goes to the nearest step of 100 m, exact halves away from zero, so that it
-- lies within 50 m of the step exactly, with no error of its own".
-- All over whole numbers: a reading is a / c metres with a sign, and denominators are multiplied out.
-- Assumes nothing.
use Rattle.std.specs.Prelude.{ℕ, zero, suc, ◌+◌, ◌-◌, ◌*◌, ◌/◌, ◌%◌, ◌^◌, ◌≤◌, Bool, true, false, cond, ◌≢◌, nat_le, nat_lt}
use Rattle.limits.specs.Limits.{half_width}
use Rattle.grid.specs.Coordinate.{from_word}

-- ---- what a pattern of 32 bits stands for

-- the sign, the highest bit
abbrev pub negative : ℕ → Bool
negative b = nat_le (2 ^ 31) b

-- the eight bits below it, the exponent's field
abbrev pub field : ℕ → ℕ
field b = b % 2 ^ 31 / 2 ^ 23

-- the lowest 23 bits
abbrev pub digits : ℕ → ℕ
digits b = b % 2 ^ 23

-- a field of all ones stands for an infinity or for no number at all
abbrev pub finite? : ℕ → Bool
finite? b = nat_lt (field b) 255

-- the smallest number above zero is 2 ^ -149: that many of them are a metre
unfoldable pub metre : ℕ
metre = 2 ^ 149

-- the size of a number in those units, by its field and its digits: a field of 0 has no leading digit and counts as 1
abbrev pub sized : ℕ → ℕ → ℕ
sized zero t = t
sized (suc x) t = (2 ^ 23 + t) * 2 ^ x

-- the size of a pattern's number, in those units
abbrev pub units : ℕ → ℕ
units b = sized (field b) (digits b)

-- ---- the nearest step

-- step k is the nearest to a / c metres: they are at most 50 m apart, and a / c is not the half above k, which goes
-- up, away from zero
pub record Nearest (a c k : ℕ) : Type 0 where
  pub below : 100 * k * c ≤ a + 50 * c
  pub above : a ≤ 100 * k * c + 50 * c
  pub half : a ≢ 100 * k * c + 50 * c

-- the same as arithmetic: half a step more, cut to whole steps
unfoldable pub nearest_step : ℕ → ℕ → ℕ
nearest_step a c = (a + 50 * c) / (100 * c)

-- "a step off the grid as 32,767"
abbrev pub beyond_step : ℕ
beyond_step = 32767

-- k steps from the grid's middle where the grid reaches so far, else that
unfoldable pub kept : ℕ → ℕ
kept k = cond (nat_le k half_width) k beyond_step

-- "the steps written out": the signed 16-bit word of the step of sign s and size k; "a step off the grid as 32,767"
unfoldable pub step_word : Bool → ℕ → ℕ
step_word s k = cond (nat_le k half_width) (cond s ((65536 - k) % 65536) k) beyond_step

-- the word of the nearest step to a pattern's reading
unfoldable pub word_of : ℕ → ℕ
word_of b = step_word (negative b) (nearest_step (units b) metre)

-- its coordinate, counted from the grid's south-west corner
unfoldable pub coordinate_of : ℕ → ℕ
coordinate_of b = from_word (word_of b)

-- "it lies within 50 m of the step exactly": a / c metres, negative where the sign says so, and the step of coordinate
-- x, which is 100 * (x - half_width) metres
abbrev pub Within : Bool → ℕ → ℕ → ℕ → Type 0
Within false a c x =
    (100 * x * c ≤ a + 100 * half_width * c + 50 * c) × (a + 100 * half_width * c ≤ 100 * x * c + 50 * c)
Within true a c x =
    (100 * x * c + a ≤ 100 * half_width * c + 50 * c) × (100 * half_width * c ≤ 100 * x * c + a + 50 * c)
