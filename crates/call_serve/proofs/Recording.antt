-- An answer's record: its size, and its bytes in the report.
-- Assumes nothing.
use mathlib.Core.Path.{◌≡◌, refl, sym, ap, subst, subst⁻¹, ◌∙◌}
use mathlib.Core.List.{List}
use Prim.Native.Nat.{ℕ, ◌+◌, ◌-◌, ◌≤◌}
use native.Mathlib.Omega.{arith}
use lib.ListN.{length}
use Rattle.limits.specs.Limits.{max_sites}
use Rattle.grid.specs.declared.Leg.{Leg}
use Rattle.grid.specs.Position.{LegOnGrid}
use Rattle.records.specs.Bytes.{write}
use Rattle.records.specs.ListRecord.{record_bytes, list_size}
use Rattle.list_row.specs.Vertices.{Held}
use Rattle.list_row.specs.Entries.{entries_from}
use Rattle.list_row.proofs.Entries.{from_length}
use Rattle.book.specs.declared.Cause.{Cause}
use Rattle.book.specs.declared.Command.{Command}
use Rattle.book.specs.Reply.{Reply, done, refused, listed, record_of, record_size}
use Rattle.book.specs.Answer.{answer}
use Rattle.book.proofs.Lists.{record_size_lem}
use Rattle.table_rules.specs.Table.{book_of}
use Rattle.call_judge.specs.declared.Answer.{Answer}
use Rattle.call_judge.specs.Judged.{reply_of, RowOk, Judged}
use Rattle.call_serve.specs.Serving.{Sized, Few}

-- ---- its size

module _ (a : Answer) where
  pub done_sized : a ≡ Answer.Done → Sized a 1
  done_sized e = subst⁻¹ (λ (y : Answer). Sized y 1) e (λ t w. refl)

  pub refusal_sized : (x : Cause) → a ≡ Answer.Refused x → Sized a 2
  refusal_sized x e = subst⁻¹ (λ (y : Answer). Sized y 2) e (λ t w. refl)

  module _ (l : Leg) (j k : ℕ) (e : a ≡ Answer.Listed l j k) where
    pub size_left : Few a → j ≤ k
    size_left f = (subst Few e f).0

    pub size_few : Few a → k - j ≤ max_sites
    size_few f = let g = (subst Few e f).1 in omega arith

    pub list_sized : (r : ℕ) → r ≡ list_size (k - j) → Sized a r
    list_sized r h = subst⁻¹ (λ (y : Answer). Sized y r) e (λ t w. h ∙ ap list_size (sym (from_length l t w j k)))

-- a record has a byte at least
size_some : (y : Reply) → 1 ≤ record_size y
size_some done = omega arith
size_some (refused x) = omega arith
size_some (listed es) = omega arith

-- where it fits, 2B does
pub one_fits : (y : Reply) (at n : ℕ) → at + record_size y ≤ n → at + 1 ≤ n
one_fits y at n h = let s = size_some y in omega arith

-- a row that can be printed has few entries
row_few : (a : Answer) (t w : List ℕ) → RowOk a t w → Few a
row_few Answer.Done t w r = tt
row_few (Answer.Refused x) t w r = tt
row_few (Answer.Listed l j k) t w r = (r.2, r.1.few)

module _ (a : Answer) (c : Command) (t w : List ℕ) (j : Judged a c t w) where
  pub judged_few : Few a
  judged_few = row_few a t w j.row

  pub size_is : (n : ℕ) → Sized a n → n ≡ length (record_of (answer (book_of t) c))
  size_is n s = s t w ∙ sym (record_size_lem (reply_of a t w)) ∙ ap (λ (y : Reply). length (record_of y)) j.said

-- ---- its bytes

module _ (a : Answer) (t w rep : List ℕ) (at : ℕ) where
  -- what is written of one answer is written of an equal one
  put_as : (y : Answer) → a ≡ y → (rep' : List ℕ) → rep' ≡ write rep at (record_of (reply_of y t w)) → rep' ≡ write rep at (record_of (reply_of a t w))
  put_as y e rep' h = h ∙ ap (λ (z : Answer). write rep at (record_of (reply_of z t w))) (sym e)

  pub put_done : a ≡ Answer.Done → (rep' : List ℕ) → rep' ≡ write rep at (record_of done) → rep' ≡ write rep at (record_of (reply_of a t w))
  put_done e = put_as Answer.Done e

  module _ (x : Cause) (e : a ≡ Answer.Refused x) where
    pub refusal_fits : (n : ℕ) → at + record_size (reply_of a t w) ≤ n → at + 2 ≤ n
    refusal_fits n h = let s = refusal_sized a x e t w in omega arith

    pub put_refused : (rep' : List ℕ) → rep' ≡ write rep at (record_of (refused x)) → rep' ≡ write rep at (record_of (reply_of a t w))
    put_refused = put_as (Answer.Refused x) e

  module _ (l : Leg) (j k : ℕ) (e : a ≡ Answer.Listed l j k) where
    pub list_fits : (n : ℕ) → at + record_size (reply_of a t w) ≤ n → at + list_size (k - j) ≤ n
    list_fits n h = let s = list_sized a l j k e (list_size (k - j)) refl t w in omega arith

    pub list_left : RowOk a t w → j ≤ k
    list_left r = (subst (λ (y : Answer). RowOk y t w) e r).2

    pub list_held : RowOk a t w → Held l t w k
    list_held r = (subst (λ (y : Answer). RowOk y t w) e r).1

    pub list_leg : RowOk a t w → LegOnGrid l
    list_leg r = (subst (λ (y : Answer). RowOk y t w) e r).0

    pub put_listed : (rep' : List ℕ) → rep' ≡ write rep at (record_bytes (entries_from l t w j k)) → rep' ≡ write rep at (record_of (reply_of a t w))
    put_listed = put_as (Answer.Listed l j k) e
