-- A call of one command with room for its record: it writes that record, and leaves the table as the command's step says.
-- Assumes nothing.
use mathlib.Core.Path.{◌≡◌, refl, sym, ap, ◌∙◌, subst}
use mathlib.Core.List.{List, [], ◌∷◌}
use mathlib.Core.Bool.{true}
use Prim.Native.Nat.{ℕ, ◌≤◌}
use lib.ListN.{length, get_or}
use native.Mathlib.Omega.{arith}
use native.Mathlib.Decide.{dec_le}
use Rattle.book.specs.declared.Command.{Command}
use Rattle.book.specs.declared.Reason.TheVariants.{AllUsed}
use Rattle.records.specs.ListRecord.{record_bytes}
use Rattle.book.specs.Book.{Book}
use Rattle.book.specs.Encode.{command_bytes}
use Rattle.book.specs.Reply.{Reply, done, refused, listed, record_of}
use Rattle.book.specs.Answer.{answer, after}
use Rattle.book.specs.Run.{Turn, Outcome, ends, run}
use Rattle.book.proofs.Runs.{turn_of, records_one, call_right}
use Rattle.book.proofs.ReadBack.{Encodable, run_one, run_one_full}
use Rattle.table_rules.specs.Table.{book_of}
use Rattle.demands.specs.Step.{Holds, keeps, Step, Chain}
use Rattle.demands.specs.Step.Chain.{none, next}
use Rattle.demands.specs.Whole.{Call, Said, said, asked, taken, said_by, Asks, HasRoom, WroteReport}
use Rattle.demands.proofs.Chains.{step_kept}
use Rattle.demands.proofs.WholeRun.{Answered, one_on, served_call}

-- a chain of one step
chain_one : {t t' : List ℕ} {u : Turn} → Chain t (u ∷ []) t' → Step t u.command u.reply t'
chain_one (next h none) = h

module _ (t : List ℕ) (b : Book) (h : Holds t b) (c : Command) (ok : Encodable c) (k : Call) (t' : List ℕ) (a : Asks t (command_bytes c) k t')
    (room : HasRoom k (record_of (answer b c))) where
  once : Outcome
  once = ends AllUsed (length (command_bytes c)) (turn_of b c ∷ []) (after b c (answer b c))

  taken_once : taken (asked k) b ≡ once
  unfolding once
  taken_once =
      call_right (length k.work) k.commands (length k.report) b a.work
      ∙ ap (λ (s : List ℕ). run s (length k.report) b) a.commands
      ∙ run_one c (length k.report) b ok room

  one : Answered b k t'
  one = one_on t b h k t' a.made

  -- THE RECORD
  pub wrote_one : WroteReport k (record_of (answer b c))
  unfolding once
  wrote_one =
      one.said_is ∙ ap said_by taken_once
      ∙ (λ i. record {
        reason = 0;
        used = length (sym a.commands i);
        written = length (records_one (turn_of b c) i);
        bytes = records_one (turn_of b c) i;
      })

  -- THE BOOK then
  pub holds_one : Holds t' (after b c (answer b c))
  unfolding once
  holds_one = subst (λ (o : Outcome). Holds t' o.book) taken_once one.holds

  -- THE TABLE: the command's step
  step_one : Step t c (answer b c) t'
  unfolding once
  step_one =
      let v = served_call t h.sound k t' a.made a.work in
      let e : run k.commands (length k.report) (book_of t) ≡ once = (λ i. run (a.commands i) (length k.report) (h.book i)) ∙ run_one c (length k.report) b ok room in
      chain_one (subst (λ (o : Outcome). Chain t o.turns t') e v.table)

  -- a command that keeps the table leaves every byte
  pub kept_one : keeps c (answer b c) ≡ true → t' ≡ t
  kept_one e = step_kept t c (answer b c) t' e step_one

-- ---- an accepted change, seen by its record

done_mark : (y : Reply) → record_of y ≡ 0x2B ∷ [] → y ≡ done
unfolding record_bytes
done_mark done e = refl
done_mark (refused x) e = absurd (let z : ◌≡◌ {A = ℕ} 0x21 0x2B = ap (λ (s : List ℕ). get_or s 0 0) e in omega arith)
done_mark (listed es) e = absurd (let z : ◌≡◌ {A = ℕ} 0x3D 0x2B = ap (λ (s : List ℕ). get_or s 0 0) e in omega arith)

module _ (t : List ℕ) (b : Book) (h : Holds t b) (c : Command) (ok : Encodable c) (k : Call) (t' : List ℕ) (a : Asks t (command_bytes c) k t') where
  run_was : said k ≡ said_by (run (command_bytes c) (length k.report) b)
  run_was =
      (one_on t b h k t' a.made).said_is
      ∙ ap said_by (call_right (length k.work) k.commands (length k.report) b a.work ∙ ap (λ (s : List ℕ). run s (length k.report) b) a.commands)

  -- REASON 0: the record had room
  pub room_one : k.result.reason ≡ 0 → HasRoom k (record_of (answer b c))
  room_one z = go (dec_le (length (record_of (answer b c))) (length k.report))
    where
      go : Dec (length (record_of (answer b c)) ≤ length k.report) → HasRoom k (record_of (answer b c))
      go (yes fits) = fits
      go (no long) =
          absurd
          (let e : ◌≡◌ {A = ℕ} 68 0 = ap (λ (x : Said). x.reason) (sym (run_was ∙ ap said_by (run_one_full c (length k.report) b ok (omega arith)))) ∙ z in
          omega arith)

  -- THE COMMAND WAS ACCEPTED, and its record had room
  pub accepted_one : WroteReport k (0x2B ∷ []) → (answer b c ≡ done) × HasRoom k (record_of (answer b c))
  accepted_one w =
      let fits = room_one (ap (λ (x : Said). x.reason) w) in
      (done_mark (answer b c) (sym (ap (λ (x : Said). x.bytes) (wrote_one t b h c ok k t' a fits)) ∙ ap (λ (x : Said). x.bytes) w), fits)
