-- A batch on a sound table, as the program sees it.
-- Assumes nothing.
use mathlib.Core.Path.{◌≡◌, refl, sym, ap, subst, ◌∙◌}
use mathlib.Core.Bool.{Bool, ◌&&◌}
use mathlib.Core.List.{List}
use Prim.Native.Nat.{ℕ, ◌-◌, ◌≤◌, ◌<◌}
use native.Mathlib.Omega.{arith}
use lib.ListN.{length, take}
use lib.Seq.{length-take-le}
use borrow.Author.Tests.{eq-eqb}
use Rattle.limits.specs.Limits.{table_bytes, work_bytes}
use Rattle.book.specs.declared.Reason.{Reason}
use Rattle.book.specs.declared.Reason.TheVariants.{NoRoom}
use Rattle.book.specs.Numbers.{reason_number}
use Rattle.book.specs.declared.BatchResult.{BatchResult}
use Rattle.book.specs.Run.{Outcome, records, run, after_all, StopsFor}
use Rattle.book.specs.Proper.{Proper}
use Rattle.book.proofs.Runs.{run_ends, run_book}
use Rattle.book.proofs.Lists.{answer_length}
use Rattle.table_rules.specs.Table.{Sound, book_of}
use Rattle.table_rules.proofs.Books.{sound_len, sound_proper}
use Rattle.demands.specs.Batch.{Return, returns, return_of, Served, Batch}
use Rattle.demands.specs.Step.{Holds}
use Rattle.demands.proofs.Reasons.{same_reason}
use Rattle.demands.proofs.Chains.{chain_holds}
use Rattle.demands.proofs.WholeRun.{is_served}
use Rattle.stops.specs.Input.{KeptInput, TakenWhole}
use Rattle.stops.specs.Calls.{longest_record, Buffers, Moves, Reported}
use Rattle.stops.proofs.Ending.{ready_after}

-- the first n elements are n
pub counts_front : (n : ℕ) (l : List ℕ) → n ≤ length l → n ≡ length (take n l)
counts_front n l h = sym (length-take-le n l h)

module _ (t w cs rep : List ℕ) (r : BatchResult) (t' w' rep' : List ℕ) (s : Sound t) (lw : length w ≡ work_bytes) (b : Batch t w cs rep (return_of r) t' w' rep') where
  served_so : Served (run cs (length rep) (book_of t)) t rep (return_of r) t' w' rep'
  served_so = is_served t w cs rep (return_of r) t' w' rep' b (λ i. eq-eqb (length t) table_bytes (sound_len t s) i && eq-eqb (length w) work_bytes lw i) s

  -- no more is used than there was
  pub used_inside : r.used ≤ length cs
  used_inside = omega (arith, ap (λ (x : Return). x.used) served_so.said, (run_ends cs (length rep) (book_of t)).inside)

  -- and no more is written than there was room for
  pub written_inside : r.written ≤ length rep
  written_inside = omega (arith, ap (λ (x : Return). x.written) served_so.said, (run_ends cs (length rep) (book_of t)).fits)

  holds_after : Holds t' (after_all (book_of t) (run cs (length rep) (book_of t)).turns)
  holds_after = chain_holds t s (run cs (length rep) (book_of t)).turns t' served_so.table

  -- the table stays sound
  pub sound_after : Sound t'
  sound_after = holds_after.sound

  -- no record is longer than the report, so 68 comes behind another record
  pub moves_on : longest_record ≤ length rep → Moves (return_of r)
  moves_on l e = wrote (run cs (length rep) (book_of t)) served_so.said (run_ends cs (length rep) (book_of t)).stops proper_after
    where
      proper_after : Proper (run cs (length rep) (book_of t)).book
      proper_after = subst Proper (holds_after.book ∙ sym (run_book cs (length rep) (book_of t))) (sound_proper t' sound_after)

      wrote : (o : Outcome) → return_of r ≡ returns (reason_number o.reason) o.used (length (records o.turns))
          → StopsFor cs (length rep) o.reason o.used o.turns o.book → Proper o.book → 0 < r.written
      wrote o said h ok =
          let f = subst (λ (y : Reason). StopsFor cs (length rep) y o.used o.turns o.book) (same_reason o.reason NoRoom (sym (ap (λ (x : Return). x.reason) said) ∙ e)) h in
          omega (arith, l, f.long, answer_length o.book ok f.command, ap (λ (x : Return). x.written) said)

-- the batch, and what is kept behind it
pub answered : (held : ℕ) (t w s rep : List ℕ) (r : BatchResult) (t' w' rep' : List ℕ) (left : ℕ) (taken : Bool) (s' : List ℕ) → Sound t → Buffers w s rep
    → held ≤ length s → Batch t w (take held s) rep (return_of r) t' w' rep' → KeptInput r.used held s left s'
    → length rep' ≡ length rep → TakenWhole taken (length (take r.written rep'))
    → Reported held t w s rep (record { reason = r.reason; left = left; taken = taken }) t' w' s' rep'
answered held t w s rep r t' w' rep' left taken s' sound bs h b k e q =
    record {
      result = r;
      made = b;
      reason = refl;
      inside = omega (arith, k.count, k.len);
      ready = ready_after (take held s) (length rep) (book_of t) (length s') left (omega (arith, k.len, bs.input)) count_left r.reason
          (same_reason (run (take held s) (length rep) (book_of t)).reason r.reason (sym (ap (λ (x : Return). x.reason) said)));
      rest = k.front;
      moves = moves_on t w (take held s) rep r t' w' rep' sound bs.work b bs.report;
      output = subst (TakenWhole taken) (length-take-le r.written rep' (omega (arith, e, written_inside t w (take held s) rep r t' w' rep' sound bs.work b))) q;
      len = k.len;
    }
  where
    said : return_of r ≡ returns (reason_number (run (take held s) (length rep) (book_of t)).reason) (run (take held s) (length rep) (book_of t)).used (length (records (run (take held s) (length rep) (book_of t)).turns))
    said = (served_so t w (take held s) rep r t' w' rep' sound bs.work b).said

    count_left : left ≡ length (take held s) - (run (take held s) (length rep) (book_of t)).used
    count_left = omega (arith, k.count, length-take-le held s h, ap (λ (x : Return). x.used) said)
