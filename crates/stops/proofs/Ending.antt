-- How a batch on a sound table ends.
-- Assumes nothing.
use mathlib.Core.Path.{◌≡◌}
use mathlib.Core.List.{List}
use Prim.Native.Nat.{ℕ, ◌-◌, ◌≤◌}
use native.Mathlib.Omega.{arith}
use lib.ListN.{length}
use Rattle.book.specs.declared.Reason.{Reason}
use Rattle.book.specs.declared.Reason.TheVariants.{AllUsed, WrongLength, Broken, UnknownCommand, CutShort, NoRoom, BrokenStanding}
use Rattle.book.specs.Book.{Book}
use Rattle.book.specs.Run.{Outcome, run, StopsFor}
use Rattle.book.proofs.Runs.{run_ends}
use Rattle.book.proofs.Parsing.{cut_bound}
use Rattle.stops.specs.Calls.{longest_command, Resumable}

ready_for : (cs : List ℕ) (room : ℕ) (o : Outcome) (size left : ℕ) → longest_command ≤ size → left ≡ length cs - o.used
    → (x : Reason) → StopsFor cs room x o.used o.turns o.book → Resumable size x left
ready_for cs room o size left l n AllUsed h = omega (arith, n, h)
ready_for cs room o size left l n WrongLength h = h
ready_for cs room o size left l n Broken h = h
ready_for cs room o size left l n UnknownCommand h = tt
ready_for cs room o size left l n CutShort h = omega (arith, n, cut_bound cs o.used h)
ready_for cs room o size left l n NoRoom h = tt
ready_for cs room o size left l n BrokenStanding h = h

pub ready_after : (cs : List ℕ) (room : ℕ) (b : Book) (size left : ℕ) → longest_command ≤ size → left ≡ length cs - (run cs room b).used
    → (x : Reason) → (run cs room b).reason ≡ x → Resumable size x left
ready_after cs room b size left l n x e = rw (← e) (ready_for cs room (run cs room b) size left l n (run cs room b).reason (run_ends cs room b).stops)
