-- The length of the work buffer has no effect on any answer but 64. Document 02, C-21.
-- Assumes nothing.
use mathlib.Core.Path.{◌≡◌, refl, sym, ap, ◌∙◌}
use mathlib.Core.List.{List, [], ◌∷◌, map}
use mathlib.Core.Bool.{Bool, true, false, cond}
use Prim.Native.Nat.{ℕ, suc}
use native.Mathlib.Omega.{arith}
use lib.Dec.{eqb}
use borrow.Author.Tests.{eq-eqb, ne_eqb}
use Rattle.limits.specs.Limits.{work_bytes}
use Rattle.book.specs.Book.{Book}
use Rattle.book.proofs.Runs.{either_length}
use Rattle.demands.specs.Step.{Holds}
use Rattle.demands.specs.Whole.{Call, Made, Said, Ask, asked, taken, taken_asking, said_by, replies, replies_asking}
use Rattle.demands.specs.WorkBuffer.{resized, AnyLength}
use Rattle.demands.proofs.WholeRun.{all_calls}

module _ (n : ℕ) where
  -- a right work buffer for a right one, a wrong one for a wrong one
  both : (q : Bool) → q ≡ eqb (cond q n (suc n)) n
  both true = sym (eq-eqb n n refl)
  both false = sym (ne_eqb (suc n) n (λ e. omega arith))

  -- one call
  same_outcome : (a : Ask) (b : Book) → taken a b ≡ taken_asking n (resized n a) b
  same_outcome a b = either_length work_bytes n a.work (resized n a).work (both (eqb a.work work_bytes)) a.commands a.room b

  -- all calls
  same_replies : (b : Book) (asks : List Ask) → replies b asks ≡ replies_asking n b (map (resized n) asks)
  unfolding replies_asking
  same_replies b [] = refl
  same_replies b (a ∷ asks) =
      (λ i. said_by (same_outcome a b i) ∷ replies (same_outcome a b i).book asks)
      ∙ ap (λ (s : List Said). said_by (taken_asking n (resized n a) b) ∷ s) (same_replies (taken_asking n (resized n a) b).book asks)

-- C-21, of all calls on any sound table
pub any_length : (t : List ℕ) (b : Book) → Holds t b → (cs : List Call) (t' : List ℕ) → Made t cs t' → AnyLength b cs
any_length t b h cs t' m n = (all_calls t b h cs t' m).0 ∙ same_replies n b (map asked cs)
