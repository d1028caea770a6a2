-- The numbers of causes and reasons. Document 01, "Causes and numbers"; document 02 has 8 (C-13), 11 (C-15)
-- and 69 (C-17).
-- `Cause` and `Reason` are the code's own enums (src/lib.rt).
-- Assumes nothing.
use Rattle.std.specs.Prelude.{ℕ}
use Rattle.book.specs.declared.Cause.{Cause}
use Rattle.book.specs.declared.Cause.TheVariants.{NumberZero, OffGrid, Held, NotHeld, Full}
use Rattle.book.specs.declared.Cause.TheVariants.{NoSite, NoLeg, NoTour, NotFinite}
use Rattle.book.specs.declared.Reason.{Reason}
use Rattle.book.specs.declared.Reason.TheVariants.{AllUsed, WrongLength, Broken, UnknownCommand}
use Rattle.book.specs.declared.Reason.TheVariants.{CutShort, NoRoom, BrokenStanding}

-- a cause's number
abbrev pub cause_number : Cause → ℕ
cause_number NumberZero = 1
cause_number OffGrid = 2
cause_number Held = 3
cause_number NotHeld = 4
cause_number Full = 5
cause_number NoSite = 6
cause_number NoLeg = 7
cause_number NoTour = 8
cause_number NotFinite = 11

-- a reason's number
abbrev pub reason_number : Reason → ℕ
reason_number AllUsed = 0
reason_number WrongLength = 64
reason_number Broken = 65
reason_number UnknownCommand = 66
reason_number CutShort = 67
reason_number NoRoom = 68
reason_number BrokenStanding = 69
