-- The exported number is the reason's.
-- Assumes nothing.
use mathlib.Core.Path.{◌≡◌, subst⁻¹}
use mathlib.Core.List.{List}
use Prim.Native.Nat.{ℕ}
use Rattle.book.specs.declared.Reason.{Reason}
use Rattle.book.specs.declared.BatchResult.{BatchResult}
use Rattle.book.specs.Numbers.{reason_number}
use Rattle.demands.specs.Batch.{returns, return_of, Batch, LaidOut}

pub laid_number : (t t' : List ℕ) (x : Reason) (n : ℕ) → LaidOut t (reason_number x) t' → n ≡ reason_number x → LaidOut t n t'
laid_number t t' x n h e = subst⁻¹ (λ (k : ℕ). LaidOut t k t') e h

pub batch_number : (t w cs rep t' w' rep' : List ℕ) (r : BatchResult) (n : ℕ) → Batch t w cs rep (return_of r) t' w' rep' → n ≡ reason_number r.reason
    → Batch t w cs rep (returns n r.used r.written) t' w' rep'
batch_number t w cs rep t' w' rep' r n h e = subst⁻¹ (λ (k : ℕ). Batch t w cs rep (returns k r.used r.written) t' w' rep') e h
