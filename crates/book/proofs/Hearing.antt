-- What a listener hears of a call is its turns: the commands are those of the bytes used, and each record is read back.
-- Assumes nothing.
use mathlib.Core.Path.{◌≡◌, refl, sym, ap, ◌∙◌}
use mathlib.Core.Bool.{Bool, true, false, cond}
use mathlib.Core.List.{List, [], ◌∷◌, ◌++◌, map}
use Prim.Native.Nat.{ℕ, zero, suc, ◌+◌, ◌≤◌, ◌<◌}
use native.Mathlib.Omega.{arith}
use lib.ListN.{length, drop}
use lib.Seq.{drop-append_seam}
use lib.Dec.{leb}
use borrow.Author.Tests.{le-leb, lt-leb}
use Rattle.split.specs.SplitList.{Entry}
use Rattle.records.specs.ListRecord.{record_bytes, list_size}
use Rattle.records.specs.Decode.{listed_of, read_record}
use Rattle.records.proofs.Length.{record_length}
use Rattle.records.proofs.ReadBack.{read_count}
use Rattle.book.specs.declared.Command.{Command}
use Rattle.book.specs.declared.Parsed.{Parsed}
use Rattle.book.specs.declared.Parsed.TheVariants.{End, Unknown, Cut, Whole}
use Rattle.book.specs.declared.Cause.{Cause}
use Rattle.book.specs.declared.Reason.TheVariants.{NoRoom}
use Rattle.book.specs.Numbers.{cause_number}
use Rattle.book.specs.Command.{parse_at}
use Rattle.book.specs.Book.{Book}
use Rattle.book.specs.Proper.{Proper}
use Rattle.book.specs.Reply.{Reply, done, refused, listed, record_of}
use Rattle.book.specs.Answer.{answer, after}
use Rattle.book.specs.Run.{Turn, records, Outcome, ends, turn, run_from, run}
use Rattle.book.specs.Listener.{Told, said_done, said_refused, said_list, read_reply, reply_bytes, Exchange, hear_records, commands_from, commands_in}
use Rattle.book.proofs.Parsing.{parse_next}
use Rattle.book.proofs.Lists.{BookList, answer_list, listed_few, listed_read}
use Rattle.book.proofs.Runs.{turn_of, Answered}

-- ---- a reply, heard

-- what a reply's record says
abbrev pub told_of : Reply → Told
told_of done = said_done
told_of (refused x) = said_refused (cause_number x)
told_of (listed es) = said_list (map listed_of es)

-- a turn, heard
abbrev pub heard_of : Turn → Exchange
heard_of u = record { command = u.command; told = told_of u.reply }

-- a record is read back, whatever stands behind it, and the next one begins behind it
record ReadsAs (y : Reply) : Type 0 where
  told : (s : List ℕ) → read_reply (record_of y ++ s) ≡ told_of y
  next : (s : List ℕ) → drop (reply_bytes (record_of y ++ s)) (record_of y ++ s) ≡ s

done_reads : ReadsAs done
done_reads = record { told = λ s. refl; next = λ s. refl }

refused_reads : (x : Cause) → ReadsAs (refused x)
refused_reads x = record { told = λ s. refl; next = λ s. refl }

listed_reads : (es : List Entry) → length es < 65536 → ((s : List ℕ) → read_record (record_bytes es ++ s) ≡ map listed_of es) → ReadsAs (listed es)
unfolding record_bytes
listed_reads es l r =
    record {
      told = λ s. ap said_list (r s);
      next = λ s. ap (λ (n : ℕ). drop n (record_bytes es ++ s)) (ap list_size (read_count es s l) ∙ sym (record_length es)) ∙ drop-append_seam (record_bytes es) s;
    }

-- EVERY ANSWER OF A PROPER BOOK IS READ BACK
answer_reads : (b : Book) → Proper b → (c : Command) (y : Reply) → y ≡ answer b c → ReadsAs y
answer_reads b ok c done e = done_reads
answer_reads b ok c (refused x) e = refused_reads x
answer_reads b ok c (listed es) e =
    let r : BookList b c es = answer_list b ok c es (sym e) in
    listed_reads es (omega (arith, listed_few b ok c es r)) (listed_read b ok c es r)

-- every book on the way keeps the rules
abbrev pub Along : Book → List Turn → Type 0
Along b [] = Proper b
Along b (u ∷ us) = Proper b × Along (after b u.command u.reply) us

-- THE RECORDS OF TURNS, HEARD, are the turns
pub records_heard : (b : Book) (us : List Turn) → Answered b us → Along b us → hear_records (map (λ (u : Turn). u.command) us) (records us) ≡ map heard_of us
unfolding hear_records records
records_heard b [] a h = refl
records_heard b (u ∷ us) a h =
    let r = answer_reads b h.0 u.command u.reply a.0 in
    (λ i. record { command = u.command; told = r.told (records us) i } ∷ hear_records (map (λ (u : Turn). u.command) us) (r.next (records us) i))
    ∙ ap (λ (x : List Exchange). heard_of u ∷ x) (records_heard (after b u.command u.reply) us a.1 h.1)

-- ---- the commands of a call

-- the commands of these turns stand one behind the other from byte `at` up to `upto`
data StandFrom (s : List ℕ) : ℕ → List Turn → ℕ → Type 0 where
  none : {at : ℕ} → StandFrom s at [] at
  next : {at nx upto : ℕ} {u : Turn} {us : List Turn} → parse_at s at ≡ Whole u.command nx → StandFrom s nx us upto → StandFrom s at (u ∷ us) upto

stand_rises : (s : List ℕ) (at : ℕ) (us : List Turn) (upto : ℕ) → StandFrom s at us upto → at ≤ upto
stand_rises s at us upto none = omega arith
stand_rises s at us upto (next {nx = nx} {u = u} {us = more} e k) = omega (arith, (parse_next s at u.command nx e).0, stand_rises s nx more upto k)

-- they are read in turn
stand_read : (s : List ℕ) (k at : ℕ) (us : List Turn) (upto : ℕ) → StandFrom s at us upto → upto ≤ at + k → commands_from k s upto at ≡ map (λ (u : Turn). u.command) us
unfolding commands_from
stand_read s zero at us upto none l = refl
stand_read s (suc k) at us upto none l = rw (le-leb upto at (omega arith)) refl
stand_read s zero at us upto (next {nx = nx} {u = u} {us = more} e h) l =
    absurd (omega (arith, (parse_next s at u.command nx e).0, stand_rises s nx more upto h))
stand_read s (suc k) at us upto (next {nx = nx} {u = u} {us = more} e h) l =
    let r = parse_next s at u.command nx e in
    let w = stand_rises s nx more upto h in
    rw (lt-leb upto at (omega (arith, r.0, w)), e)
    (ap (λ (x : List Command). u.command ∷ x) (stand_read s k nx more upto h (omega (arith, r.0))))

-- one more behind them
stand_more : (s : List ℕ) (at : ℕ) (us : List Turn) (upto : ℕ) → StandFrom s at us upto → (u : Turn) (nx : ℕ) → parse_at s upto ≡ Whole u.command nx
    → StandFrom s at (us ++ (u ∷ [])) nx
stand_more s at us upto none u nx e = next e none
stand_more s at us upto (next f k) u nx e = next f (stand_more s _ _ upto k u nx e)

module _ (cs : List ℕ) (room : ℕ) where
  stands_run : (k at : ℕ) (past : List Turn) (b : Book) → StandFrom cs 0 past at
      → StandFrom cs 0 (run_from k cs room at past b).turns (run_from k cs room at past b).used
  unfolding run_from turn
  stands_run zero at past b h = h
  stands_run (suc k) at past b h = go (parse_at cs at) refl (stands_run k)
    where
      go : (p : Parsed) → parse_at cs at ≡ p
          → ((nx : ℕ) (past' : List Turn) (b' : Book) → StandFrom cs 0 past' nx → StandFrom cs 0 (run_from k cs room nx past' b').turns (run_from k cs room nx past' b').used)
          → StandFrom cs 0 (turn (run_from k cs room) p room at past b).turns (turn (run_from k cs room) p room at past b).used
      go End e ih = h
      go Unknown e ih = h
      go Cut e ih = h
      go (Whole c nx) e ih =
          room? (leb (length (records past) + length (record_of (answer b c))) room)
          (ih nx (past ++ (turn_of b c ∷ [])) (after b c (answer b c)) (stand_more cs 0 past at h (turn_of b c) nx e))
        where
          on : Outcome
          on = run_from k cs room nx (past ++ (turn_of b c ∷ [])) (after b c (answer b c))

          stop : Outcome
          stop = ends NoRoom at past b

          room? : (t : Bool) → StandFrom cs 0 on.turns on.used → StandFrom cs 0 (cond t on stop).turns (cond t on stop).used
          room? true x = x
          room? false x = h

-- THE COMMANDS OF THE BYTES USED are those that got a record
pub run_commands_heard : (cs : List ℕ) (room : ℕ) (b : Book) → commands_in cs (run cs room b).used ≡ map (λ (u : Turn). u.command) (run cs room b).turns
run_commands_heard cs room b =
    stand_read cs (run cs room b).used 0 (run cs room b).turns (run cs room b).used (stands_run cs room (suc (length cs)) 0 [] b none) (omega arith)
