-- What follows a batch.
-- Assumes nothing.
use mathlib.Core.Path.{◌≡◌, refl, sym, ap, ◌∙◌}
use mathlib.Core.List.{List, ◌++◌}
use Prim.Native.Nat.{ℕ}
use native.Mathlib.Omega.{arith}
use lib.ListN.{length, take, drop, take-append-drop}
use lib.Seq.{take-take, length-take-le, length-slice}
use Rattle.book.specs.declared.Reason.{Reason}
use Rattle.book.specs.declared.Reason.TheVariants.{AllUsed, WrongLength, Broken, UnknownCommand, CutShort, NoRoom, BrokenStanding}
use Rattle.stops.specs.declared.Next.{Next}
use Rattle.stops.specs.declared.Got.{Got}
use Rattle.stops.specs.declared.Got.TheVariants.{Bytes, Ended, Failed}
use Rattle.stops.specs.Input.{ReadOn}
use Rattle.stops.specs.Calls.{JoinedInput, Onward, WantsMore, Final, after_read, Follows}

-- ---- after 0 and 67

-- bytes that came are joined with those that were left
onward_joined : (size : ℕ) (reason : Reason) (rest held : List ℕ) → WantsMore reason → JoinedInput size rest held → Onward size reason rest held
onward_joined size AllUsed rest held h j = j
onward_joined size WrongLength rest held h j = absurd h
onward_joined size Broken rest held h j = absurd h
onward_joined size UnknownCommand rest held h j = absurd h
onward_joined size CutShort rest held h j = j
onward_joined size NoRoom rest held h j = absurd h
onward_joined size BrokenStanding rest held h j = absurd h

final_read : (reason : Reason) → WantsMore reason → Final reason
final_read AllUsed h = tt
final_read WrongLength h = absurd h
final_read Broken h = absurd h
final_read UnknownCommand h = absurd h
final_read CutShort h = tt
final_read NoRoom h = absurd h
final_read BrokenStanding h = absurd h

after : (s : List ℕ) (reason : Reason) (left : ℕ) (got : Got) (s' : List ℕ) → WantsMore reason → ReadOn left s got s'
    → Follows (length s) reason (take left s) (after_read got reason) s'
after s reason left (Bytes n) s' h r = (
  r.behind.1,
  onward_joined (length s) reason (take left s) (take n s') h (record {
    fresh = drop left (take n s');
    some = omega (arith, length-slice left n s' r.behind.1, r.behind.0);
    joined = sym (take-append-drop left (take n s'))
        ∙ ap (λ (y : List ℕ). y ++ drop left (take n s')) (take-take left n s' (omega (arith, r.behind.0)) ∙ r.front);
    fits = omega (arith, length-take-le n s' r.behind.1, r.behind.1, r.len);
  }),
)
after s reason left Ended s' h r = (refl, final_read reason h)
after s reason left Failed s' h r = h

pub after_read_lem : (s : List ℕ) (reason : Reason) (left : ℕ) (got : Got) (r : Next) (s' : List ℕ) → WantsMore reason → ReadOn left s got s' → r ≡ after_read got reason
    → Follows (length s) reason (take left s) r s'
after_read_lem s reason left got r s' h g e = rw e (after s reason left got s' h g)
