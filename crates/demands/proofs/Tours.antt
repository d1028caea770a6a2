-- THE PROMISE OF TOURS, proved over the definitions of the calls' contracts alone: what is heard of the calls is the book's
-- turns, and every book on the way is that of a sound table.
-- Assumes nothing.
use mathlib.Core.Path.{◌≡◌, refl, sym, ap, ◌∙◌, subst}
use mathlib.Core.List.{List, [], ◌∷◌, ◌++◌, map}
use mathlib.Core.Bool.{Bool, true, false, cond}
use Prim.Native.Nat.{ℕ}
use lib.ListN.{length}
use lib.Dec.{eqb}
use borrow.Author.Tests.{eqb-true}
use Rattle.limits.specs.Limits.{work_bytes}
use Rattle.book.specs.declared.Command.{Command}
use Rattle.book.specs.declared.Reason.TheVariants.{WrongLength}
use Rattle.book.specs.Book.{Book, empty_book}
use Rattle.book.specs.Answer.{after}
use Rattle.book.specs.Run.{Turn, records, ends, run, after_all}
use Rattle.book.specs.Listener.{Exchange, hear_records, commands_in, commands_from}
use Rattle.book.proofs.Runs.{after_append, Answered, run_ends, run_book}
use Rattle.book.proofs.Hearing.{heard_of, Along, records_heard, run_commands_heard}
use Rattle.book.proofs.Tours.{heard_told}
use Rattle.table_rules.specs.Table.{Sound, book_of}
use Rattle.table_rules.proofs.Books.{sound_proper}
use Rattle.demands.specs.Step.{Holds, Chain}
use Rattle.demands.specs.Step.Chain.{none, next}
use Rattle.demands.specs.Whole.{Call, MadeOn, Made, Ran, asked, taken, heard_in, heard_of_run}
use Rattle.demands.specs.Whole.Made.{none as no_call, next as more-calls}
use Rattle.demands.specs.Demands.{ToursTold}
use Rattle.demands.proofs.Chains.{step_holds}
use Rattle.demands.proofs.WholeRun.{served_call, one_call, one_on, laid_holds}

-- along a chain every book is proper
chain_along : (t : List ℕ) → Sound t → (us : List Turn) (t' : List ℕ) → Chain t us t' → Along (book_of t) us
chain_along t s us t' none = sound_proper t s
chain_along t s us t' (next {t₁ = t₁} {u = u} {us = more} h k) =
    let a = step_holds t s u.command u.reply t₁ h in
    (sound_proper t s, subst (λ (x : Book). Along x more) a.book (chain_along t₁ a.sound more t' k))

answered_append : (b : Book) (ts us : List Turn) → Answered b ts → Answered (after_all b ts) us → Answered b (ts ++ us)
answered_append b [] us a h = h
answered_append b (t ∷ ts) us a h = (a.0, answered_append (after b t.command t.reply) ts us a.1 h)

along_append : (b : Book) (ts us : List Turn) → Along b ts → Along (after_all b ts) us → Along b (ts ++ us)
along_append b [] us a h = h
along_append b (t ∷ ts) us a h = (a.0, along_append (after b t.command t.reply) ts us a.1 h)

heard_append : (ts us : List Turn) → map heard_of (ts ++ us) ≡ map heard_of ts ++ map heard_of us
heard_append [] us = refl
heard_append (t ∷ ts) us = ap (λ (x : List Exchange). heard_of t ∷ x) (heard_append ts us)

-- turns on the book b that were heard so, and leave the book d
record HeardAs (b : Book) (us : List Turn) (d : Book) (heard : List Exchange) : Type 0 where
  answered : Answered b us
  along : Along b us
  book : d ≡ after_all b us
  told : heard ≡ map heard_of us

-- ---- one call

module _ (t : List ℕ) (s : Sound t) (c : Call) (t' : List ℕ) (m : MadeOn t c t') where
  -- what is heard, by what the book says
  by_book : heard_in c ≡ hear_records (commands_in c.commands (taken (asked c) (book_of t)).used) (records (taken (asked c) (book_of t)).turns)
  by_book =
      let e = (one_call t s c t' m).said_is in
      λ i. hear_records (commands_in c.commands (e i).used) (e i).bytes

  call_heard : (us : List Turn) × HeardAs (book_of t) us (taken (asked c) (book_of t)).book (heard_in c)
  unfolding hear_records commands_from records
  call_heard = go (eqb (length c.work) work_bytes) refl by_book
    where
      go : (p : Bool) → eqb (length c.work) work_bytes ≡ p
          → heard_in c
          ≡ hear_records (commands_in c.commands (cond p (run c.commands (length c.report) (book_of t)) (ends WrongLength 0 [] (book_of t))).used)
          (records (cond p (run c.commands (length c.report) (book_of t)) (ends WrongLength 0 [] (book_of t))).turns)
          → (us : List Turn) × HeardAs (book_of t) us (cond p (run c.commands (length c.report) (book_of t)) (ends WrongLength 0 [] (book_of t))).book (heard_in c)
      go true e h =
          let o = run c.commands (length c.report) (book_of t) in
          let w = (run_ends c.commands (length c.report) (book_of t)).answered in
          let k = chain_along t s o.turns t' (served_call t s c t' m (eqb-true _ _ e)).table in (
            o.turns,
            record {
              answered = w;
              along = k;
              book = run_book c.commands (length c.report) (book_of t);
              told =
                  h ∙ ap (λ (x : List Command). hear_records x (records o.turns)) (run_commands_heard c.commands (length c.report) (book_of t))
                  ∙ records_heard (book_of t) o.turns w k;
            },
          )
      go false e h = ([], record { answered = tt; along = sound_proper t s; book = refl; told = h })

call_on : (t : List ℕ) (b : Book) → Holds t b → (c : Call) (t' : List ℕ) → MadeOn t c t' → (us : List Turn) × HeardAs b us (taken (asked c) b).book (heard_in c)
call_on t b h c t' m = subst (λ (x : Book). (us : List Turn) × HeardAs x us (taken (asked c) x).book (heard_in c)) h.book (call_heard t h.sound c t' m)

-- ---- all calls

made_heard : (t : List ℕ) (b : Book) → Holds t b → (cs : List Call) (t' : List ℕ) → Made t cs t' → (us : List Turn) × ((d : Book) × HeardAs b us d (heard_of_run cs))
unfolding heard_of_run
made_heard t b h cs t' no_call =
    ([], (b, record { answered = tt; along = subst (λ (x : Book). Along x []) h.book (sound_proper t h.sound); book = refl; told = refl }))
made_heard t b h (c ∷ cs) t' (more-calls {t₁ = t₁} m more) =
    let (us, a) = call_on t b h c t₁ m in
    let (vs, (d, r)) = made_heard t₁ (taken (asked c) b).book (one_on t b h c t₁ m).holds cs t' more in (
      us ++ vs,
      (
        d,
        record {
          answered = answered_append b us vs a.answered (subst (λ (x : Book). Answered x vs) a.book r.answered);
          along = along_append b us vs a.along (subst (λ (x : Book). Along x vs) a.book r.along);
          book = r.book ∙ ap (λ (x : Book). after_all x vs) a.book ∙ sym (after_append b us vs);
          told = (λ i. a.told i ++ r.told i) ∙ sym (heard_append us vs);
        },
      ),
    )

-- EVERY LEG OF A TOUR IS TOLD
pub tours : (cs : List Call) (t' : List ℕ) → Ran cs t' → ToursTold cs
tours cs t' r past later p es e =
    let (us, (d, h)) = made_heard r.laid_table empty_book (laid_holds r.before r.laid_table r.laid) cs t' r.made in
    heard_told empty_book refl us h.answered h.along past later p es (sym h.told ∙ e)
