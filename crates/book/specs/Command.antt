-- Command bytes. Document 01, "Buffers and batches": the table of commands, and "Multi-byte numbers stand lowest byte
-- first; positions are two signed 16-bit numbers, site numbers unsigned 16-bit". Document 02, C-15: 61 and 6D have "the
-- position as two 32-bit IEEE 754 numbers in metres from the grid's origin".
-- Assumes nothing.
use Rattle.std.specs.Prelude.{List, [], ◌∷◌, cond, ℕ, ◌+◌, length, get_or, eqb, leb, ltb, Option, None, Some}
use Rattle.words.specs.Words.{word_at}
use Rattle.grid.specs.declared.Position.{Position}
use Rattle.grid.specs.declared.Leg.{Leg}
use Rattle.grid.specs.Coordinate.{word_position}
use Rattle.readings.specs.declared.Reading.{Reading}
use Rattle.readings.specs.declared.Location.TheVariants.{InSteps, InMetres}
use Rattle.readings.specs.Location.{reading_at}
use Rattle.book.specs.declared.Command.{Command}
use Rattle.book.specs.declared.Command.TheVariants.{Add, Remove, Move, List as ListOf, Stand, Print}
use Rattle.book.specs.declared.Command.TheVariants.{Begin, Corner}
use Rattle.book.specs.declared.Shape.{Shape}
use Rattle.book.specs.declared.Shape.TheVariants.{Nothing, Number, OnePosition, NumberPosition, TwoPositions}
use Rattle.book.specs.declared.Shape.TheVariants.{NumberReadings}
use Rattle.book.specs.declared.Parsed.{Parsed}
use Rattle.book.specs.declared.Parsed.TheVariants.{End, Unknown, Cut, Whole}

-- ---- operands, by their shape

-- what makes a command of operands of this shape
abbrev pub Maker : Shape → Type 0
Maker Nothing = Command
Maker Number = ℕ → Command
Maker OnePosition = Position → Command
Maker NumberPosition = ℕ → Position → Command
Maker TwoPositions = Leg → Command
Maker NumberReadings = ℕ → Reading → Command

-- the bytes that they take: a number 2, a position 4, two readings 8
abbrev pub operand_bytes : Shape → ℕ
operand_bytes Nothing = 0
operand_bytes Number = 2
operand_bytes OnePosition = 4
operand_bytes NumberPosition = 6
operand_bytes TwoPositions = 8
operand_bytes NumberReadings = 10

-- the position at byte i
abbrev pub position_at : List ℕ → ℕ → Position
position_at s i = word_position (word_at s i) (word_at s (i + 2))

-- the leg at byte i: "S, E"
abbrev pub leg_at : List ℕ → ℕ → Leg
leg_at s i = record { s = position_at s i; e = position_at s (i + 4) }

-- the command of the operands at byte i
abbrev pub made_at : (x : Shape) → Maker x → List ℕ → ℕ → Command
made_at Nothing c s i = c
made_at Number f s i = f (word_at s i)
made_at OnePosition f s i = f (position_at s i)
made_at NumberPosition f s i = f (word_at s i) (position_at s (i + 2))
made_at TwoPositions f s i = f (leg_at s i)
made_at NumberReadings f s i = f (word_at s i) (reading_at s (i + 2))

-- ---- the table of commands

-- the form of a command, a row of the table: the command byte, its operands, the command that they make
pub record Form : Type 0 where
  pub mark : ℕ
  pub shape : Shape
  pub maker : Maker shape

-- the same, written in one line
abbrev pub form : ℕ → (x : Shape) → Maker x → Form
form m x f = record { mark = m; shape = x; maker = f }

-- "A position is from then on either steps or a pair of receiver readings" (C-15): 41 and 4D have steps
abbrev pub add_at : ℕ → Position → Command
add_at n p = Add n (InSteps p)

abbrev pub move_to : ℕ → Position → Command
move_to n p = Move n (InSteps p)

-- 61 and 6D have readings
abbrev pub add_surveyed : ℕ → Reading → Command
add_surveyed n r = Add n (InMetres r)

abbrev pub move_surveyed : ℕ → Reading → Command
move_surveyed n r = Move n (InMetres r)

-- document 01's table: "Command", "Operands", "Meaning"; behind it the commands of document 02: C-13's 42 and 43, and
-- C-15's 61 and 6D
abbrev pub command_table : List Form
command_table =
    form 0x41 NumberPosition add_at
    ∷ form 0x44 Number Remove
    ∷ form 0x4D NumberPosition move_to
    ∷ form 0x4C TwoPositions ListOf
    ∷ form 0x53 TwoPositions Stand
    ∷ form 0x50 Nothing Print
    ∷ form 0x42 OnePosition Begin
    ∷ form 0x43 OnePosition Corner
    ∷ form 0x61 NumberReadings add_surveyed
    ∷ form 0x6D NumberReadings move_surveyed
    ∷ []

-- the bytes of a command of this form: its mark and its operands
abbrev pub form_bytes : Form → ℕ
form_bytes r = 1 + operand_bytes r.shape

-- the form of a command byte, or none, among some rows
abbrev pub form_in : List Form → ℕ → Option Form
form_in [] m = None
form_in (r ∷ rs) m = cond (eqb m r.mark) (Some r) (form_in rs m)

-- in the table
unfoldable pub form_of : ℕ → Option Form
form_of m = form_in command_table m

-- the bytes of the longest command of some rows
abbrev pub longest_in : List Form → ℕ
longest_in [] = 0
longest_in (r ∷ rs) = cond (leb (longest_in rs) (form_bytes r)) (form_bytes r) (longest_in rs)

-- ---- what stands at a byte

-- a command of this form, or "operands cut short" where they are not all there
abbrev pub whole : List ℕ → ℕ → Form → Parsed
whole s at r = cond (ltb (length s) (at + form_bytes r)) Cut (Whole (made_at r.shape r.maker s (at + 1)) (at + form_bytes r))

-- "For each command 66 is tested first, then 67"
abbrev pub command_at : List ℕ → ℕ → Option Form → Parsed
command_at s at None = Unknown
command_at s at (Some r) = whole s at r

-- what stands at byte `at`
unfoldable pub parse_at : List ℕ → ℕ → Parsed
parse_at s at = cond (leb (length s) at) End (command_at s at (form_of (get_or s at 0)))
