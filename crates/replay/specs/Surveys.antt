-- Calls with receiver readings, beside the same with the steps written out. Document 02, C-15.
-- Assumes nothing.
use Rattle.std.specs.Prelude.{◌≡◌, List, [], ◌∷◌, ◌++◌, ℕ, drop}
use Rattle.limits.specs.Limits.{work_bytes}
use Rattle.book.specs.WrittenOut.{written_bytes}
use Rattle.demands.specs.Batch.{LaidOut}
use Rattle.demands.specs.Whole.{Said}
use Rattle.replay.specs.declared.Heard.{Heard}
use Rattle.replay.specs.declared.survey.Rest.{Rest}
use Rattle.replay.specs.declared.survey.Readings.{Readings}
use Rattle.replay.specs.declared.survey.Refusals.{Refusals}
use Rattle.replay.specs.declared.survey.Badly.{Badly}
use Rattle.replay.specs.declared.survey.Surveyed.{Surveyed}
use Rattle.replay.specs.Replayed.{ask, Called, print_alone, add_two, list_ten, ten_bytes, reply, said_in}

-- site 1 at -150 m and negative zero, and the standing list
abbrev pub survey : List ℕ
survey = (0x61 ∷ 1 ∷ 0 ∷ 0 ∷ 0 ∷ 0x16 ∷ 0xC3 ∷ 0 ∷ 0 ∷ 0 ∷ 0x80 ∷ []) ++ print_alone

-- site 1 moved to 150 m and 250 m
abbrev pub move_one : List ℕ
move_one = 0x6D ∷ 1 ∷ 0 ∷ 0 ∷ 0 ∷ 0x16 ∷ 0x43 ∷ 0 ∷ 0 ∷ 0x7A ∷ 0x43 ∷ []

-- site 3 at 1,200,050 m, and FF, which is no command
abbrev pub add_beyond : List ℕ
add_beyond = 0x61 ∷ 3 ∷ 0 ∷ 0x90 ∷ 0x7D ∷ 0x92 ∷ 0x49 ∷ 0 ∷ 0 ∷ 0 ∷ 0 ∷ 0xFF ∷ []

-- site 2 at (7,1), the leg (0,0) to (10,0), and an addition by readings that is cut short
abbrev pub list_cut : List ℕ
list_cut = add_two ++ list_ten ++ (0x61 ∷ [])

-- the same with the steps written out: site 1 at (-2,0)
abbrev pub steps : List ℕ
steps = (0x41 ∷ 1 ∷ 0 ∷ 0xFE ∷ 0xFF ∷ 0 ∷ 0 ∷ []) ++ print_alone

-- site 1 to (2,3)
abbrev pub move_one_steps : List ℕ
move_one_steps = 0x4D ∷ 1 ∷ 0 ∷ 2 ∷ 0 ∷ 3 ∷ 0 ∷ []

-- site 3 off the grid: "a step off the grid as 32,767"
abbrev pub add_beyond_steps : List ℕ
add_beyond_steps = 0x41 ∷ 3 ∷ 0 ∷ 0xFF ∷ 0x7F ∷ 0 ∷ 0 ∷ 0xFF ∷ []

-- an addition that is cut short
abbrev pub list_cut_steps : List ℕ
list_cut_steps = add_two ++ list_ten ++ (0x41 ∷ [])

-- 1, 11 and 2 at once: site 0, no number, 1,200,050 m
abbrev pub add_zero : List ℕ
add_zero = 0x61 ∷ 0 ∷ 0 ∷ 0 ∷ 0 ∷ 0xC0 ∷ 0x7F ∷ 0x90 ∷ 0x7D ∷ 0x92 ∷ 0x49 ∷ []

-- 11, 2 and 3 at once: site 1, which is held, with the same readings
abbrev pub add_infinite : List ℕ
add_infinite = 0x61 ∷ 1 ∷ 0 ∷ 0 ∷ 0 ∷ 0xC0 ∷ 0x7F ∷ 0x90 ∷ 0x7D ∷ 0x92 ∷ 0x49 ∷ []

-- 2 and 3 at once
abbrev pub add_held : List ℕ
add_held = 0x61 ∷ 1 ∷ 0 ∷ 0x90 ∷ 0x7D ∷ 0x92 ∷ 0x49 ∷ 0 ∷ 0 ∷ 0 ∷ 0 ∷ []

-- 1, 11 and 2 at once: site 0, 1,200,050 m, minus infinity
abbrev pub move_zero : List ℕ
move_zero = 0x6D ∷ 0 ∷ 0 ∷ 0x90 ∷ 0x7D ∷ 0x92 ∷ 0x49 ∷ 0 ∷ 0 ∷ 0x80 ∷ 0xFF ∷ []

-- 11, 2 and 4 at once: site 9, which is not held, with the same readings
abbrev pub move_infinite : List ℕ
move_infinite = 0x6D ∷ 9 ∷ 0 ∷ 0x90 ∷ 0x7D ∷ 0x92 ∷ 0x49 ∷ 0 ∷ 0 ∷ 0x80 ∷ 0xFF ∷ []

-- 2 and 4 at once: the largest number, south
abbrev pub move_absent : List ℕ
move_absent = 0x6D ∷ 9 ∷ 0 ∷ 0 ∷ 0 ∷ 0 ∷ 0 ∷ 0xFF ∷ 0xFF ∷ 0x7F ∷ 0xFF ∷ []

-- a call was made on a table just laid out, with these commands, and left t'
pub record Begun (cs : List ℕ) (r : Heard 2) (t' : List ℕ) : Type 0 where
  pub before : List ℕ
  pub table : List ℕ
  pub laid : LaidOut before 0 table
  pub called : Called (ask work_bytes cs 2) r.result table t' r.report

-- three calls were made on the table t, with these commands, and left t'
pub record GoneOn (cs ds es : List ℕ) (r : Rest) (t t' : List ℕ) : Type 0 where
  pub second : List ℕ
  pub third : List ℕ
  pub used : Called (ask work_bytes cs 2) r.used.result t second r.used.report
  pub unknown : Called (ask work_bytes ds 2) r.unknown.result second third r.unknown.report
  pub cut : Called (ask work_bytes es 24) r.cut.result third t' r.cut.report

-- these four were made on a table just laid out, and left t'
pub record Run (bs cs ds es : List ℕ) (r : Readings) (t' : List ℕ) : Type 0 where
  pub after : List ℕ
  pub begun : Begun bs r.full after
  pub on : GoneOn cs ds es r.rest after t'

-- three that are not taken were asked of the table t
pub record NotTaken (cs ds es : List ℕ) (r : Refusals) (t t' : List ℕ) : Type 0 where
  pub second : List ℕ
  pub third : List ℕ
  pub zero : Called (ask work_bytes cs 2) r.zero.result t second r.zero.report
  pub infinite : Called (ask work_bytes ds 2) r.infinite.result second third r.infinite.report
  pub beyond : Called (ask work_bytes es 2) r.beyond.result third t' r.beyond.report

-- and so were additions, and then moves
pub record BothNotTaken (r : Badly) (t t' : List ℕ) : Type 0 where
  pub between : List ℕ
  pub adds : NotTaken add_zero add_infinite add_held r.adds t between
  pub moves : NotTaken move_zero move_infinite move_absent r.moves between t'

-- 1, 11 and 2
abbrev pub refused_so : List Said
refused_so = reply 0 11 (0x21 ∷ 1 ∷ []) ∷ reply 0 11 (0x21 ∷ 11 ∷ []) ∷ reply 0 11 (0x21 ∷ 2 ∷ []) ∷ []

-- what the refusals said
abbrev pub said_badly : Refusals → List Said
said_badly r = said_in r.zero ∷ said_in r.infinite ∷ said_in r.beyond ∷ []

-- THE CALLS, with readings and with steps, each with its own bytes used: an addition and 68; a move; a refusal for a
-- step off the grid, and 66; an addition, the list that document 01 gives, and 67. Then 1, 11 and 2, each where the
-- causes behind it in the order of tests are met too, of additions and of moves, and on both tables
pub record SurveyTold (r : Surveyed) : Type 0 where
  pub full : said_in r.metres.full ≡ reply 68 11 (0x2B ∷ [])
  pub used : said_in r.metres.rest.used ≡ reply 0 11 (0x2B ∷ [])
  pub unknown : said_in r.metres.rest.unknown ≡ reply 66 11 (0x21 ∷ 2 ∷ [])
  pub cut : said_in r.metres.rest.cut ≡ reply 67 16 (0x2B ∷ ten_bytes)
  pub full_steps : said_in r.steps.full ≡ reply 68 7 (0x2B ∷ [])
  pub used_steps : said_in r.steps.rest.used ≡ reply 0 7 (0x2B ∷ [])
  pub unknown_steps : said_in r.steps.rest.unknown ≡ reply 66 7 (0x21 ∷ 2 ∷ [])
  pub cut_steps : said_in r.steps.rest.cut ≡ reply 67 16 (0x2B ∷ ten_bytes)
  -- what 68 left of one is what it left of the other, written out
  pub left : drop r.steps.full.result.used steps ≡ written_bytes (drop r.metres.full.result.used survey)
  pub adds : said_badly r.refused.adds ≡ refused_so
  pub moves : said_badly r.refused.moves ≡ refused_so
  -- both tables hold one book
  pub alike : said_badly r.alike.adds ≡ said_badly r.refused.adds
