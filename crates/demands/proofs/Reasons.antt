-- A reason is known by its number.
-- Assumes nothing.
use mathlib.Core.Path.{◌≡◌, refl, sym, ap, ◌∙◌}
use mathlib.Core.Bool.{cond}
use Prim.Native.Nat.{ℕ}
use lib.Dec.{eqb}
use Rattle.book.specs.declared.Reason.{Reason}
use Rattle.book.specs.declared.Reason.TheVariants.{AllUsed, WrongLength, Broken, UnknownCommand, CutShort, NoRoom, BrokenStanding}
use Rattle.book.specs.Numbers.{reason_number}

-- the reason of a number
reason_by : ℕ → Reason
reason_by n =
    cond (eqb n 0) AllUsed
    (cond (eqb n 64) WrongLength
    (cond (eqb n 65) Broken
    (cond (eqb n 66) UnknownCommand (cond (eqb n 67) CutShort (cond (eqb n 68) NoRoom BrokenStanding)))))

reason_by_lem : (x : Reason) → reason_by (reason_number x) ≡ x
unfolding reason_by
reason_by_lem AllUsed = refl
reason_by_lem WrongLength = refl
reason_by_lem Broken = refl
reason_by_lem UnknownCommand = refl
reason_by_lem CutShort = refl
reason_by_lem NoRoom = refl
reason_by_lem BrokenStanding = refl

-- ONE NUMBER, ONE REASON
pub same_reason : (x y : Reason) → reason_number x ≡ reason_number y → x ≡ y
same_reason x y e = sym (reason_by_lem x) ∙ ap reason_by e ∙ reason_by_lem y
