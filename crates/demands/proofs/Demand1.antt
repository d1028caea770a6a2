-- DEMAND 1, proved over the definitions of the calls' contracts alone.
-- Assumes nothing.
use mathlib.Core.Path.{◌≡◌, sym, ap, ◌∙◌, subst}
use mathlib.Core.Logic.{◌≢◌, ◌⊎◌, inl, inr}
use mathlib.Core.Bool.{true, false, true≢false}
use mathlib.Core.List.{List, [], ◌∷◌, Memᴰ}
use Prim.Native.Nat.{ℕ}
use native.Mathlib.Omega.{arith}
use lib.ListN.{length, drop}
use lib.Seq.{take-append_seam, drop-append_seam}
use borrow.Author.Tests.{eq-eqb, ne_eqb}
use Rattle.limits.specs.Limits.{table_bytes}
use Rattle.book.specs.declared.Reason.{Reason}
use Rattle.book.specs.declared.Reason.TheVariants.{AllUsed, UnknownCommand, CutShort, NoRoom}
use Rattle.book.specs.Numbers.{reason_number}
use Rattle.book.specs.Run.{records, StopsFor}
use Rattle.book.proofs.Runs.{run_ends, run_all, all_run, run_reason}
use Rattle.table_rules.specs.Table.{Whole, StandingOk, Sound, book_of}
use Rattle.demands.specs.Batch.{Return, lengths_ok, Refused, Served, LaidOut}
use Rattle.demands.specs.Batch.Batch.{wrong, broken, broken_standing, served}
use Rattle.demands.specs.Batch.LaidOut.{wrong as not-laid, laid}
use Rattle.demands.specs.Whole.{Call, MadeOn}
use Rattle.demands.specs.Demands.{run_of, Kept, Demand1, Demand1Laid}
use Rattle.demands.proofs.Reasons.{same_reason}
use Rattle.demands.proofs.Chains.{chain_holds, chain_kept, chain_toured}
use Rattle.demands.proofs.WholeRun.{is_wrong, is_broken, is_broken_standing, is_served}

-- ---- numbers and reasons

-- the four reasons of a run, by their numbers
abbrev Four : ℕ → Type 0
Four n = (n ≡ 0) ⊎ (n ≡ 66) ⊎ (n ≡ 67) ⊎ (n ≡ 68)

four : (x : Reason) → (x ≡ AllUsed) ⊎ (x ≡ UnknownCommand) ⊎ (x ≡ CutShort) ⊎ (x ≡ NoRoom) → Four (reason_number x)
four x (inl e) = inl (ap reason_number e)
four x (inr (inl e)) = inr (inl (ap reason_number e))
four x (inr (inr (inl e))) = inr (inr (inl (ap reason_number e)))
four x (inr (inr (inr e))) = inr (inr (inr (ap reason_number e)))

-- none of them refuses the whole call
four_none : (n : ℕ) → Four n → (n ≢ 64) × (n ≢ 65) × (n ≢ 69)
four_none n (inl e) = (λ z. omega arith, λ z. omega arith, λ z. omega arith)
four_none n (inr (inl e)) = (λ z. omega arith, λ z. omega arith, λ z. omega arith)
four_none n (inr (inr (inl e))) = (λ z. omega arith, λ z. omega arith, λ z. omega arith)
four_none n (inr (inr (inr e))) = (λ z. omega arith, λ z. omega arith, λ z. omega arith)

abbrev Seven : List ℕ
Seven = 0 ∷ 64 ∷ 65 ∷ 66 ∷ 67 ∷ 68 ∷ 69 ∷ []

four_seven : (n : ℕ) → Four n → Memᴰ n Seven
four_seven n (inl e) = Memᴰ.head e
four_seven n (inr (inl e)) = Memᴰ.tail (Memᴰ.tail (Memᴰ.tail (Memᴰ.head e)))
four_seven n (inr (inr (inl e))) = Memᴰ.tail (Memᴰ.tail (Memᴰ.tail (Memᴰ.tail (Memᴰ.head e))))
four_seven n (inr (inr (inr e))) = Memᴰ.tail (Memᴰ.tail (Memᴰ.tail (Memᴰ.tail (Memᴰ.tail (Memᴰ.head e)))))

-- ---- a call that takes commands

module _ (t t' : List ℕ) (c : Call) (s : Sound t) (v : Served (run_of t c) t c.report c.result t' c.work_after c.report_after) where
  reason_is : c.result.reason ≡ reason_number (run_of t c).reason
  reason_is = ap (λ (r : Return). r.reason) v.said

  used_is : c.result.used ≡ (run_of t c).used
  used_is = ap (λ (r : Return). r.used) v.said

  written_is : c.result.written ≡ length (records (run_of t c).turns)
  written_is = ap (λ (r : Return). r.written) v.said

  is_four : Four c.result.reason
  is_four = subst Four (sym reason_is) (four (run_of t c).reason (run_reason c.commands (length c.report) (book_of t)))

  past_is : drop c.result.written c.report_after ≡ drop c.result.written c.report
  past_is =
      (λ i. drop (written_is i) (v.report i))
      ∙ drop-append_seam (records (run_of t c).turns) (drop (length (records (run_of t c).turns)) c.report)
      ∙ ap (λ (n : ℕ). drop n c.report) (sym written_is)

  kept : Kept t c t'
  kept =
      let e = run_ends c.commands (length c.report) (book_of t) in
      record {
        stops =
            record {
              reason = (run_of t c).reason;
              number = reason_is;
              for = subst (λ (n : ℕ). StopsFor c.commands (length c.report) (run_of t c).reason n (run_of t c).turns (run_of t c).book) (sym used_is) e.stops;
            };
        all_used = λ z. used_is ∙ run_all c.commands (length c.report) (book_of t) (same_reason (run_of t c).reason AllUsed (sym reason_is ∙ z));
        used_all = λ z. reason_is ∙ ap reason_number (all_run c.commands (length c.report) (book_of t) (sym used_is ∙ z));
        within = (rw used_is e.inside, rw written_is e.fits);
        past = past_is;
        counts = (used_is, written_is);
        recorded = rw (written_is, v.report) (take-append_seam (records (run_of t c).turns) _);
        holds = rw e.book (chain_holds t s (run_of t c).turns t' v.table);
        cleared = v.work;
        kept = λ n. chain_kept t (run_of t c).turns t' n v.table;
        tour_alone = λ n. chain_toured t (run_of t c).turns t' n v.table;
      }

-- ---- any call

module _ (t : List ℕ) (c : Call) (t' : List ℕ) where
  -- the number of a refused call
  number_is : (n : ℕ) → Refused n t c.report c.result t' c.report_after → c.result.reason ≡ n
  number_is n h = ap (λ (r : Return). r.reason) h.said

  ends_in : MadeOn t c t' → Memᴰ c.result.reason Seven
  ends_in (wrong e h k) = Memᴰ.tail (Memᴰ.head (number_is 64 h))
  ends_in (broken e n h k) = Memᴰ.tail (Memᴰ.tail (Memᴰ.head (number_is 65 h)))
  ends_in (broken_standing e w n h k) =
      Memᴰ.tail (Memᴰ.tail (Memᴰ.tail (Memᴰ.tail (Memᴰ.tail (Memᴰ.tail (Memᴰ.head (number_is 69 h)))))))
  ends_in (served e s v) = four_seven c.result.reason (is_four t t' c s v)

  only_wrong : MadeOn t c t' → c.result.reason ≡ 64 → lengths_ok t c.work ≡ false
  only_wrong (wrong e h k) z = e
  only_wrong (broken e n h k) z = absurd (omega (arith, number_is 65 h, z))
  only_wrong (broken_standing e w n h k) z = absurd (omega (arith, number_is 69 h, z))
  only_wrong (served e s v) z = absurd ((four_none c.result.reason (is_four t t' c s v)).0 z)

  only_broken : MadeOn t c t' → c.result.reason ≡ 65 → (lengths_ok t c.work ≡ true) × ¬ Whole t
  only_broken (wrong e h k) z = absurd (omega (arith, number_is 64 h, z))
  only_broken (broken e n h k) z = (e, n)
  only_broken (broken_standing e w n h k) z = absurd (omega (arith, number_is 69 h, z))
  only_broken (served e s v) z = absurd ((four_none c.result.reason (is_four t t' c s v)).1 z)

  only_standing : MadeOn t c t' → c.result.reason ≡ 69 → (lengths_ok t c.work ≡ true) × Whole t × ¬ StandingOk t
  only_standing (wrong e h k) z = absurd (omega (arith, number_is 64 h, z))
  only_standing (broken e n h k) z = absurd (omega (arith, number_is 65 h, z))
  only_standing (broken_standing e w n h k) z = (e, w, n)
  only_standing (served e s v) z = absurd ((four_none c.result.reason (is_four t t' c s v)).2 z)

  -- DEMAND 1
  pub demand1 : MadeOn t c t' → Demand1 t c t'
  demand1 m =
      record {
        ends = ends_in m;
        wrong = λ e.
            let w = is_wrong t c.work c.commands c.report c.result t' c.work_after c.report_after m e in
            (w.0.said, w.0.table, w.1, w.0.report);
        only64 = only_wrong m;
        broken = λ e n.
            let w = is_broken t c.work c.commands c.report c.result t' c.work_after c.report_after m e n in
            (w.0.said, w.0.table, w.1, w.0.report);
        only65 = only_broken m;
        broken_standing = λ e w n.
            let x = is_broken_standing t c.work c.commands c.report c.result t' c.work_after c.report_after m e w n in
            (x.0.said, x.0.table, x.1, x.0.report);
        only69 = only_standing m;
        taken = λ e s. kept t t' c s (is_served t c.work c.commands c.report c.result t' c.work_after c.report_after m e s);
      }

-- ---- laying out

-- DEMAND 1 of laying out
pub demand1_laid : (t : List ℕ) (r : ℕ) (t' : List ℕ) → LaidOut t r t' → Demand1Laid t r t'
demand1_laid t r t' (not-laid e h k) =
    record {
      ends = inr h;
      laid = λ z. absurd (true≢false (sym (eq-eqb (length t) table_bytes z) ∙ e));
      wrong = λ z. (h, k);
    }
demand1_laid t r t' (laid e h k) =
    record {
      ends = inl h;
      laid = λ z. (h, k);
      wrong = λ z. absurd (true≢false (sym e ∙ ne_eqb (length t) table_bytes z));
    }
