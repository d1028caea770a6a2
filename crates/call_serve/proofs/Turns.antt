-- The loop over the commands: at its head the run so far is the book's, and the table and the report are as the book's turns leave them.
-- Assumes nothing.
use mathlib.Core.Path.{◌≡◌, refl, sym, ap, subst, subst⁻¹, ◌∙◌}
use Rattle.std.specs.Prelude.{Result}
use Rattle.book.specs.declared.Cause.{Cause}
use mathlib.Core.List.{List, [], ◌∷◌, ◌++◌, append_assoc}
use Prim.Native.Nat.{ℕ, ◌+◌, ◌-◌, ◌≤◌, ◌<◌}
use native.Mathlib.Omega.{arith}
use lib.ListN.{length, drop, length-append, length-drop}
use lib.Seq.{take-append_seam, drop-append-add, drop-drop}
use Rattle.records.specs.Bytes.{write}
use Rattle.records.proofs.Writing.{write_is}
use Rattle.book.specs.declared.Command.{Command}
use Rattle.book.specs.declared.Parsed.{Parsed}
use Rattle.book.specs.declared.Parsed.TheVariants.{End, Unknown, Cut, Whole}
use Rattle.book.specs.declared.Reason.{Reason}
use Rattle.book.specs.declared.Reason.TheVariants.{AllUsed, UnknownCommand, CutShort, NoRoom}
use Rattle.book.specs.declared.BatchResult.{BatchResult}
use Rattle.book.specs.Numbers.{reason_number}
use Rattle.book.specs.Command.{parse_at}
use Rattle.book.specs.Reply.{record_of, record_size}
use Rattle.book.specs.Answer.{answer}
use Rattle.book.specs.Run.{Turn, Outcome, records, ends, run}
use Rattle.book.proofs.Runs.{records_append, records_one, records_more, turn_of, Steps, steps_none, ends_all, ends_unknown, ends_cut, ends_full, steps_less, steps_one}
use Rattle.table_rules.specs.Table.{book_of, Sound}
use Rattle.demands.specs.Step.{Step, Chain}
use Rattle.demands.specs.Step.Chain.{none, next}
use Rattle.demands.specs.Batch.{returns, return_of}
use Rattle.demands.proofs.Chains.{chain_holds}
use Rattle.call_judge.specs.declared.Answer.{Answer}
use Rattle.call_judge.specs.declared.Verdict.{Verdict}
use Rattle.call_judge.specs.Judged.{reply_of}
use Rattle.call_judge.specs.Verdict.{answer_of, Decided}
use Rattle.call_serve.specs.Serving.{Sized, Few, Obeyed, EndsAs, Answered}
use Rattle.call_serve.proofs.Recording.{size_is, judged_few}
use Rattle.call_serve.proofs.Carrying.{carried_step}

-- a chain, and one step more
chain_more : (t : List ℕ) (us : List Turn) (t₁ t' : List ℕ) (u : Turn) → Chain t us t₁ → Step t₁ u.command u.reply t' → Chain t (us ++ (u ∷ [])) t'
chain_more t us t₁ t' u none s = next s none
chain_more t us t₁ t' u (next h k) s = next h (chain_more _ _ t₁ t' u k s)

-- the report after the records r, and one record more
report_more : (r x rep₀ : List ℕ) → length r + length x ≤ length rep₀
    → write (r ++ drop (length r) rep₀) (length r) x ≡ (r ++ x) ++ drop (length r + length x) rep₀
report_more r x rep₀ h =
    let long : length (r ++ drop (length r) rep₀) ≡ length rep₀ = omega (arith, length-append r (drop (length r) rep₀), length-drop (length r) rep₀) in
    write_is (r ++ drop (length r) rep₀) (length r) x (omega arith)
    ∙ (λ i. take-append_seam r (drop (length r) rep₀) i ++ (x ++ (drop-append-add r (drop (length r) rep₀) (length x) ∙ drop-drop (length x) (length r) rep₀) i))
    ∙ sym (append_assoc r x (drop (length r + length x) rep₀))

-- a list has few entries
pub turn_few : (v : Result Verdict Cause) (a : Answer) (c : Command) (t w : List ℕ) → a ≡ answer_of v → Decided v c t w → Few a
turn_few v a c t w ha d = subst⁻¹ Few ha (judged_few (answer_of v) c t w d.judged)

-- the record has room
pub turn_fits : (v : Result Verdict Cause) (a : Answer) (t w : List ℕ) (n written size : ℕ) → written ≤ n → a ≡ answer_of v → Sized a size → size ≤ n - written
    → written + record_size (reply_of (answer_of v) t w) ≤ n
turn_fits v a t w n written size l ha s h = omega (arith, s t w, ap (λ (y : Answer). record_size (reply_of y t w)) ha)

-- what is written then is no more than the report
pub turn_room : (n written size : ℕ) → written ≤ n → size ≤ n - written → written + size ≤ n
turn_room n written size w h = omega arith

-- at the loop's head
pub record Serving (cs t₀ rep₀ : List ℕ) (used written : ℕ) (t rep : List ℕ) : Type 0 where
  pub past : List Turn
  pub steps : Steps cs (length rep₀) (book_of t₀) used past (book_of t)
  pub chain : Chain t₀ past t
  pub sound : Sound t
  pub count : written ≡ length (records past)
  pub report : rep ≡ records past ++ drop (length (records past)) rep₀

-- before the first command
pub serving_none : (cs t rep : List ℕ) → Sound t → Serving cs t rep 0 0 t rep
unfolding records
serving_none cs t rep s =
    record {
      past = [];
      steps = steps_none cs (length rep) (book_of t);
      chain = none;
      sound = s;
      count = refl;
      report = refl;
    }

module _ (cs t₀ rep₀ : List ℕ) (used written : ℕ) (t rep : List ℕ) (s : Serving cs t₀ rep₀ used written t rep) where
  room : length rep ≡ length rep₀
  room =
      omega
      (arith, ap length s.report, length-append (records s.past) (drop (length (records s.past)) rep₀), length-drop (length (records s.past)) rep₀, s.steps.fits)

  pub serving_sound : Sound t
  serving_sound = s.sound

  pub serving_fits : written ≤ length rep
  serving_fits = omega (arith, room, s.count, s.steps.fits)

  ended : (reason : Reason) → run cs (length rep₀) (book_of t₀) ≡ ends reason used s.past (book_of t)
      → (r : BatchResult) → r ≡ record { reason = reason; used = used; written = written } → Answered cs t₀ rep₀ r t rep
  ended reason e r h =
      subst (λ (o : Outcome). EndsAs o t₀ rep₀ r t rep) (sym e)
      (record { said = ap return_of h ∙ ap (λ (n : ℕ). returns (reason_number reason) used n) s.count; report = s.report; table = s.chain })

  module _ (p : Parsed) (hp : p ≡ parse_at cs used) where
    pub ended_all : p ≡ End → (r : BatchResult) → r ≡ record { reason = AllUsed; used = used; written = written } → Answered cs t₀ rep₀ r t rep
    ended_all e = ended AllUsed (ends_all cs (length rep₀) (book_of t₀) used s.past (book_of t) s.steps p hp e)

    pub ended_unknown : p ≡ Unknown → (r : BatchResult) → r ≡ record { reason = UnknownCommand; used = used; written = written } → Answered cs t₀ rep₀ r t rep
    ended_unknown e = ended UnknownCommand (ends_unknown cs (length rep₀) (book_of t₀) used s.past (book_of t) s.steps p hp e)

    pub ended_cut : p ≡ Cut → (r : BatchResult) → r ≡ record { reason = CutShort; used = used; written = written } → Answered cs t₀ rep₀ r t rep
    ended_cut e = ended CutShort (ends_cut cs (length rep₀) (book_of t₀) used s.past (book_of t) s.steps p hp e)

    module _ (c : Command) (after-it : ℕ) (hc : p ≡ Whole c after-it) where
      pub fewer_left : length cs - after-it < length cs - used
      fewer_left = steps_less cs (length rep₀) (book_of t₀) used s.past (book_of t) s.steps p hp c after-it hc

      module _ (v : Result Verdict Cause) (a : Answer) (w : List ℕ) (d : Decided v c t w) (ha : a ≡ answer_of v) (size : ℕ) (hs : Sized a size) where
        long : size ≡ length (record_of (answer (book_of t) c))
        long = size_is (answer_of v) c t w d.judged size (subst (λ (y : Answer). Sized y size) ha hs)

        pub ended_full : length rep - written < size → (r : BatchResult) → r ≡ record { reason = NoRoom; used = used; written = written } → Answered cs t₀ rep₀ r t rep
        ended_full h =
            ended NoRoom
            (ends_full cs (length rep₀) (book_of t₀) used s.past (book_of t) s.steps p hp c after-it hc
            (omega (arith, room, s.count, serving_fits, long)))

        -- ONE TURN
        pub serving_one : size ≤ length rep - written → (t' rep' : List ℕ) → Obeyed v t w t' rep written rep'
            → Serving cs t₀ rep₀ after-it (written + size) t' rep'
        serving_one h t' rep' o =
            let u = turn_of (book_of t) c in
            let step : Step t c (answer (book_of t) c) t' = carried_step c t w t' v d o.carried in
            let b = chain_holds t s.sound (u ∷ []) t' (next step none) in
            let fits : length (records s.past) + length (record_of (answer (book_of t) c)) ≤ length rep₀ =
            omega (arith, room, s.count, serving_fits, long)
            in
            record {
              past = s.past ++ (u ∷ []);
              steps = rw b.book (steps_one cs (length rep₀) (book_of t₀) used s.past (book_of t) s.steps p hp c after-it hc fits);
              chain = chain_more t₀ s.past t t' u s.chain step;
              sound = b.sound;
              count = omega (arith, s.count, records_more s.past u, long);
              report = o.report
                  ∙ (λ i. write (s.report i) (s.count i) (record_of (d.judged.said i)))
                  ∙ report_more (records s.past) (record_of (answer (book_of t) c)) rep₀ fits
                  ∙ (λ i. (ap (λ (y : List ℕ). records s.past ++ y) (sym (records_one u)) ∙ sym (records_append s.past (u ∷ []))) i ++ drop (sym (records_more s.past u) i) rep₀);
            }
