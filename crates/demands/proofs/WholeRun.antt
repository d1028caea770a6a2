-- A whole list of calls on a table just laid out answers as the book does, and leaves a sound table of the book.
-- Assumes nothing.
use mathlib.Core.Path.{◌≡◌, refl, sym, ap, subst, ◌∙◌}
use mathlib.Core.List.{List, [], ◌∷◌, map}
use mathlib.Core.Bool.{Bool, true, false, cond, true≢false}
use Prim.Native.Nat.{ℕ}
use native.Mathlib.Omega.{arith}
use lib.ListN.{length, take}
use lib.Seq.{take-append_seam}
use lib.Dec.{eqb}
use borrow.Author.Tests.{eq-eqb}
use Rattle.limits.specs.Limits.{table_bytes, work_bytes}
use Rattle.book.specs.declared.Reason.TheVariants.{WrongLength}
use Rattle.book.specs.Book.{Book, empty_book}
use Rattle.book.specs.Run.{Outcome, records, ends, run}
use Rattle.book.proofs.Runs.{run_book}
use Rattle.table_empty.specs.EmptyTable.{zeros}
use Rattle.table_rules.specs.Table.{Whole, StandingOk, Sound, book_of}
use Rattle.table_rules.proofs.Books.{sound_len}
use Rattle.table_rules.proofs.Laid.{laid_sound, laid_book}
use Rattle.demands.specs.Step.{Holds}
use Rattle.demands.specs.Batch.{Return, lengths_ok, Refused, Served, Batch, LaidOut}
use Rattle.demands.specs.Batch.Batch.{wrong, broken, broken_standing, served}
use Rattle.demands.specs.Batch.LaidOut.{wrong as not-laid, laid}
use Rattle.demands.specs.Whole.{Call, MadeOn, Made, Ran, said, asked, taken, said_by, replies, replies_asking, book_after, book_of_run}
use Rattle.demands.specs.Whole.Made.{none, next}
use Rattle.demands.specs.Demands.{AskedAlike, Alike}
use Rattle.demands.proofs.Chains.{chain_holds}

-- ---- which of the four a call is

module _ (t w cs rep : List ℕ) (r : Return) (t' w' rep' : List ℕ) where
  -- lengths that are both right and wrong
  clash : {A : Type 0} → lengths_ok t w ≡ true → lengths_ok t w ≡ false → A
  clash e f = absurd (true≢false (sym e ∙ f))

  pub is_wrong : Batch t w cs rep r t' w' rep' → lengths_ok t w ≡ false → Refused 64 t rep r t' rep' × (w' ≡ w)
  is_wrong (wrong e h k) f = (h, k)
  is_wrong (broken e n h k) f = clash e f
  is_wrong (broken_standing e w n h k) f = clash e f
  is_wrong (served e s h) f = clash e f

  pub is_broken : Batch t w cs rep r t' w' rep' → lengths_ok t w ≡ true → ¬ Whole t → Refused 65 t rep r t' rep' × (w' ≡ zeros work_bytes)
  is_broken (wrong e h k) f n = clash f e
  is_broken (broken e m h k) f n = (h, k)
  is_broken (broken_standing e x m h k) f n = absurd (n x)
  is_broken (served e s h) f n = absurd (n s.whole)

  pub is_broken_standing : Batch t w cs rep r t' w' rep' → lengths_ok t w ≡ true → Whole t → ¬ StandingOk t
      → Refused 69 t rep r t' rep' × (w' ≡ zeros work_bytes)
  is_broken_standing (wrong e h k) f x n = clash f e
  is_broken_standing (broken e m h k) f x n = absurd (m x)
  is_broken_standing (broken_standing e y m h k) f x n = (h, k)
  is_broken_standing (served e s h) f x n = absurd (n s.standing)

  pub is_served : Batch t w cs rep r t' w' rep' → lengths_ok t w ≡ true → Sound t → Served (run cs (length rep) (book_of t)) t rep r t' w' rep'
  is_served (wrong e h k) f s = clash f e
  is_served (broken e n h k) f s = absurd (n s.whole)
  is_served (broken_standing e x n h k) f s = absurd (n s.standing)
  is_served (served e z h) f s = h

-- ---- one call

-- one call on a sound table of the book b
pub record Answered (b : Book) (c : Call) (t' : List ℕ) : Type 0 where
  pub said_is : said c ≡ said_by (taken (asked c) b)
  pub holds : Holds t' (taken (asked c) b).book

module _ (t : List ℕ) (s : Sound t) (c : Call) (t' : List ℕ) (m : MadeOn t c t') where
  ok : (p : Bool) → eqb (length c.work) work_bytes ≡ p → lengths_ok t c.work ≡ p
  ok p e = rw (eq-eqb (length t) table_bytes (sound_len t s)) e

  front : (o : Outcome) → Served o t c.report c.result t' c.work_after c.report_after → take c.result.written c.report_after ≡ records o.turns
  front o v = rw (ap (λ (r : Return). r.written) v.said, v.report) (take-append_seam (records o.turns) _)

  served_said : (o : Outcome) → Served o t c.report c.result t' c.work_after c.report_after → said c ≡ said_by o
  served_said o v = λ i.
      record { reason = (v.said i).reason; used = (v.said i).used; written = (v.said i).written; bytes = front o v i }

  by_length : (p : Bool) → eqb (length c.work) work_bytes ≡ p
      → (said c ≡ said_by (cond p (run c.commands (length c.report) (book_of t)) (ends WrongLength 0 [] (book_of t))))
      × Holds t' (cond p (run c.commands (length c.report) (book_of t)) (ends WrongLength 0 [] (book_of t))).book
  unfolding records
  by_length false e =
      let w = (is_wrong t c.work c.commands c.report c.result t' c.work_after c.report_after m (ok false e)).0 in (
        (λ i. record { reason = (w.said i).reason; used = (w.said i).used; written = (w.said i).written; bytes = take (w.said i).written c.report_after }),
        rw w.table (record { sound = s; book = refl }),
      )
  by_length true e =
      let v = is_served t c.work c.commands c.report c.result t' c.work_after c.report_after m (ok true e) s in
      let o = run c.commands (length c.report) (book_of t) in
      (served_said o v, rw (run_book c.commands (length c.report) (book_of t)) (chain_holds t s o.turns t' v.table))

  -- ONE CALL answers as the book does
  pub one_call : Answered (book_of t) c t'
  one_call = let h = by_length (eqb (length c.work) work_bytes) refl in record { said_is = h.0; holds = h.1 }

  -- with a work buffer of the right length it is the book's run
  pub served_call : length c.work ≡ work_bytes → Served (run c.commands (length c.report) (book_of t)) t c.report c.result t' c.work_after c.report_after
  served_call e =
      is_served t c.work c.commands c.report c.result t' c.work_after c.report_after m (ok true (eq-eqb (length c.work) work_bytes e)) s

pub one_on : (t : List ℕ) (b : Book) → Holds t b → (c : Call) (t' : List ℕ) → MadeOn t c t' → Answered b c t'
one_on t b h c t' m = subst (λ (x : Book). Answered x c t') h.book (one_call t h.sound c t' m)

-- ---- all calls

-- ALL CALLS answer as the book does
pub all_calls : (t : List ℕ) (b : Book) → Holds t b → (cs : List Call) (t' : List ℕ) → Made t cs t'
    → (map said cs ≡ replies b (map asked cs)) × Holds t' (book_after b (map asked cs))
unfolding replies_asking book_after
all_calls t b h cs t' none = (refl, h)
all_calls t b h (c ∷ cs) t' (next {t₁ = t₁} m more) =
    let a = one_on t b h c t₁ m in
    let r = all_calls t₁ (taken (asked c) b).book a.holds cs t' more in
    ((λ i. a.said_is i ∷ r.0 i), r.1)

-- TWO SOUND TABLES OF ONE BOOK answer alike
pub alike : (t u : List ℕ) (cs ds : List Call) (t' u' : List ℕ) → AskedAlike t u cs ds t' u' → Alike cs ds t' u'
alike t u cs ds t' u' a =
    let x = all_calls t (book_of t) (record { sound = a.sound.0; book = refl }) cs t' a.made.0 in
    let y = all_calls u (book_of t) (record { sound = a.sound.1; book = sym a.book }) ds u' a.made.1 in
    record {
      sound = (x.1.sound, y.1.sound);
      said_same = x.0 ∙ ap (replies (book_of t)) a.asked_same ∙ sym y.0;
      book = x.1.book ∙ ap (book_after (book_of t)) a.asked_same ∙ sym y.1.book;
    }

-- the table just laid out
pub laid_holds : (t₀ t : List ℕ) → LaidOut t₀ 0 t → Holds t empty_book
laid_holds t₀ t (not-laid e r h) = absurd (omega arith)
laid_holds t₀ t (laid e r h) = rw h (record { sound = laid_sound; book = laid_book })

-- WHOLE RUNS leave a sound table of the book
pub ran_holds : (cs : List Call) (t' : List ℕ) → Ran cs t' → Holds t' (book_of_run cs)
ran_holds cs t' r = (all_calls r.laid_table empty_book (laid_holds r.before r.laid_table r.laid) cs t' r.made).1

-- and answer as the book does
pub ran_answers : (cs : List Call) (t' : List ℕ) → Ran cs t' → map said cs ≡ replies empty_book (map asked cs)
ran_answers cs t' r = (all_calls r.laid_table empty_book (laid_holds r.before r.laid_table r.laid) cs t' r.made).0
