-- The promises of the two calls, one law for each return.
-- Assumes nothing.
use mathlib.Core.Path.{◌≡◌, refl, ap, subst, subst⁻¹, ◌∙◌}
use mathlib.Core.Logic.{◌≢◌}
use mathlib.Core.List.{List}
use Prim.Native.Nat.{ℕ}
use lib.ListN.{length}
use borrow.Author.Tests.{eq-eqb, ne_eqb}
use Rattle.limits.specs.Limits.{table_bytes, work_bytes}
use Rattle.book.specs.declared.Reason.{Reason}
use Rattle.book.specs.declared.Reason.TheVariants.{AllUsed, WrongLength, Broken, UnknownCommand, CutShort, NoRoom, BrokenStanding}
use Rattle.book.specs.declared.BatchResult.{BatchResult}
use Rattle.book.specs.Numbers.{reason_number}
use Rattle.book.specs.Run.{run}
use Rattle.table_empty.specs.EmptyTable.{zeros, empty_table}
use Rattle.table_rules.specs.Table.{book_of, Sound}
use Rattle.demands.specs.Batch.{returns, return_of, Refused, Served, Batch, LaidOut, lengths_ok}
use Rattle.demands.specs.Batch.Batch.{wrong, broken, broken_standing, served}
use Rattle.demands.specs.Batch.LaidOut.{wrong as not-laid, laid}
use Rattle.call_serve.specs.Serving.{Answered}
use Rattle.std.specs.Prelude.{⊤, Result, Ok, Err, true}
use Rattle.table_admit.specs.Admitted.{RefusedFor, AdmittedAs}

-- ---- laying out

pub laid_wrong : (t : List ℕ) → length t ≢ table_bytes → LaidOut t 64 t
laid_wrong t n = not-laid (ne_eqb (length t) table_bytes n) refl refl

pub laid_right : (t t' : List ℕ) → length t ≡ table_bytes → t' ≡ empty_table → LaidOut t 0 t'
laid_right t t' n h = laid (eq-eqb (length t) table_bytes n) refl h

-- ---- a batch

-- t₁ is the array of the bytes of t
pub served_array : (t t₁ w cs rep : List ℕ) (r : BatchResult) (t' w' rep' : List ℕ) → t₁ ≡ t → lengths_ok t w ≡ true → Sound t
    → Served (run cs (length rep) (book_of t₁)) t₁ rep (return_of r) t' w' rep' → Batch t w cs rep (return_of r) t' w' rep'
served_array t t₁ w cs rep r t' w' rep' e l s v =
    served l s (subst (λ (x : List ℕ). Served (run cs (length rep) (book_of x)) x rep (return_of r) t' w' rep') e v)

module _ (t w w₁ : List ℕ) (a : Result ⊤ Reason) (h : AdmittedAs a t w w₁) where
  pub refused_batch : (cs rep : List ℕ) (r : BatchResult) (x : Reason) → a ≡ Err x → r ≡ record { reason = x; used = 0; written = 0 }
      → Batch t w cs rep (return_of r) t w₁ rep
  refused_batch cs rep r x e q =
      subst⁻¹ (λ (y : BatchResult). Batch t w cs rep (return_of y) t w₁ rep) q (go x (subst (λ (y : Result ⊤ Reason). AdmittedAs y t w w₁) e h))
    where
      left : (n : ℕ) → Refused n t rep (returns n 0 0) t rep
      left n = record { said = refl; table = refl; report = refl }

      go : (y : Reason) → RefusedFor y t w w₁ → Batch t w cs rep (returns (reason_number y) 0 0) t w₁ rep
      go AllUsed f = absurd f
      go WrongLength f = wrong f.0 (left 64) f.1
      go Broken f = broken f.0 f.1 (left 65) f.2
      go UnknownCommand f = absurd f
      go CutShort f = absurd f
      go NoRoom f = absurd f
      go BrokenStanding f = broken_standing f.0 f.1 f.2 (left 69) f.3

-- the work buffer is cleared behind the last command
pub served_cleared : (t w w₁ w' cs rep t' rep' : List ℕ) (r : BatchResult) → length w ≡ work_bytes → length w₁ ≡ length w → w' ≡ zeros (length w₁)
    → Answered cs t rep r t' rep' → Served (run cs (length rep) (book_of t)) t rep (return_of r) t' w' rep'
served_cleared t w w₁ w' cs rep t' rep' r lw kept z a = record { said = a.said; report = a.report; table = a.table; work = z ∙ ap zeros (kept ∙ lw) }
