-- The same commands with the steps written out. Document 02, C-15: "A run whose readings are all finite must answer,
-- record for record, as the same run with the steps written out, a step off the grid as 32,767."
-- Assumes nothing.
use Rattle.std.specs.Prelude.{◌≡◌, Bool, true, cond, ◌&&◌, List, [], ◌∷◌, ◌++◌, ℕ, zero, suc, length, get_or, take, drop, eqb}
use Rattle.readings.specs.declared.Location.TheVariants.{InSteps}
use Rattle.readings.specs.Reading.{finite?, word_of}
use Rattle.readings.specs.Location.{placed, long_at}
use Rattle.records.specs.Bytes.{bytes2}
use Rattle.book.specs.declared.Command.{Command}
use Rattle.book.specs.declared.Command.TheVariants.{Add, Remove, Move, List as ListOf, Stand, Print}
use Rattle.book.specs.declared.Command.TheVariants.{Begin, Corner}
use Rattle.book.specs.declared.Parsed.{Parsed}
use Rattle.book.specs.declared.Parsed.TheVariants.{End, Unknown, Cut, Whole}
use Rattle.book.specs.Command.{parse_at}

-- a command with its steps written out
abbrev pub written_out : Command → Command
written_out (Add n l) = Add n (InSteps (placed l))
written_out (Remove n) = Remove n
written_out (Move n l) = Move n (InSteps (placed l))
written_out (ListOf l) = ListOf l
written_out (Stand l) = Stand l
written_out Print = Print
written_out (Begin p) = Begin p
written_out (Corner p) = Corner p

-- ---- in bytes, one command

-- the operands of a 61 or a 6D as those of a 41 or a 4D: the number as it is, then the steps of easting and northing
abbrev pub step_operands : List ℕ → List ℕ
step_operands s = get_or s 1 0 ∷ get_or s 2 0 ∷ bytes2 (word_of (long_at s 3)) ++ bytes2 (word_of (long_at s 7))

-- a 61 as a 41, and a 6D as a 4D
abbrev pub add_written : List ℕ → List ℕ
add_written s = 0x41 ∷ step_operands s

-- and the other
abbrev pub move_written : List ℕ → List ℕ
move_written s = 0x4D ∷ step_operands s

-- by the first byte of s: a for a 61, m for a 6D, o for each other
abbrev pub by_mark : List ℕ → List ℕ → List ℕ → List ℕ → List ℕ
by_mark s a m o = cond (eqb (get_or s 0 0) 0x61) a (cond (eqb (get_or s 0 0) 0x6D) m o)

-- the bytes of a whole command: those, and each other as it is
abbrev pub whole_written : List ℕ → List ℕ
whole_written s = by_mark s (add_written s) (move_written s) s

-- of one that is cut short: a 61 or 6D stands as a 41 or 4D without operands
abbrev pub cut_written : List ℕ → List ℕ
cut_written s = by_mark s (0x41 ∷ []) (0x4D ∷ []) s

-- the readings of a whole command, if it has any, are finite
abbrev pub finite_whole : List ℕ → Bool
finite_whole s =
    cond (eqb (get_or s 0 0) 0x61) (finite? (long_at s 3) && finite? (long_at s 7))
    (cond (eqb (get_or s 0 0) 0x6D) (finite? (long_at s 3) && finite? (long_at s 7)) true)

-- ---- in bytes, all commands

-- by what the bytes s begin with: one command, and then `on`
abbrev pub written_by : (List ℕ → List ℕ) → List ℕ → Parsed → List ℕ
written_by on s End = []
written_by on s Unknown = s
written_by on s Cut = cut_written s
written_by on s (Whole c next) = whole_written (take next s) ++ on (drop next s)

-- in at most k turns
unfoldable pub written_in : ℕ → List ℕ → List ℕ
written_in zero s = []
written_in (suc k) s = written_by (written_in k) s (parse_at s 0)

-- "the same run with the steps written out": each command takes at least a byte, so that one turn more than bytes is
-- enough
abbrev pub written_bytes : List ℕ → List ℕ
written_bytes s = written_in (suc (length s)) s

-- "whose readings are all finite", by what the bytes s begin with
abbrev pub FiniteBy : (List ℕ → Type 0) → List ℕ → Parsed → Type 0
FiniteBy on s End = Unit {0}
FiniteBy on s Unknown = Unit {0}
FiniteBy on s Cut = Unit {0}
FiniteBy on s (Whole c next) = (finite_whole (take next s) ≡ true) × on (drop next s)

-- in at most k turns
unfoldable pub FiniteIn : ℕ → List ℕ → Type 0
FiniteIn zero s = Unit {0}
FiniteIn (suc k) s = FiniteBy (FiniteIn k) s (parse_at s 0)

-- in all of them
abbrev pub AllFinite : List ℕ → Type 0
AllFinite s = FiniteIn (suc (length s)) s
