-- A batch on a sound table, beside the book's run. Document 01, "The site book".
-- Assumes nothing.
use Rattle.std.specs.Prelude.{◌≡◌, List, ◌++◌, ℕ, ◌≤◌, length, drop, Result, Ok, Err}
use Rattle.limits.specs.Limits.{max_sites}
use Rattle.words.specs.Words.{Only}
use Rattle.records.specs.Bytes.{write}
use Rattle.readings.specs.declared.Location.TheVariants.{InSteps}
use Rattle.book.specs.declared.Command.TheVariants.{Add, Remove, Move, Stand, Begin, Corner}
use Rattle.book.specs.declared.BatchResult.{BatchResult}
use Rattle.book.specs.declared.Cause.{Cause}
use Rattle.book.specs.Numbers.{reason_number}
use Rattle.book.specs.Book.{change}
use Rattle.book.specs.Reply.{record_of, record_size}
use Rattle.book.specs.Run.{Outcome, records, run}
use Rattle.table_header.specs.Layout.{tour_start, tour_end}
use Rattle.table_rules.specs.Table.{book_of}
use Rattle.demands.specs.Step.{Holds, Chain}
use Rattle.demands.specs.Batch.{returns, return_of}
use Rattle.call_judge.specs.declared.Answer.{Answer}
use Rattle.call_judge.specs.declared.Verdict.{Verdict}
use Rattle.call_judge.specs.Judged.{reply_of}
use Rattle.call_judge.specs.Verdict.{answer_of}

-- n is the size of an answer's record, whatever stands in the table and the row
abbrev pub Sized : Answer → ℕ → Type 0
Sized a n = (t w : List ℕ) → n ≡ record_size (reply_of a t w)

-- a list of no more entries than sites can be held, and no more left out than it has
abbrev pub Few : Answer → Type 0
Few Answer.Done = Unit {0}
Few (Answer.Refused x) = Unit {0}
Few (Answer.Listed l j k) = (j ≤ k) × (k ≤ max_sites)

-- what a verdict does to the table: nothing, or what the book does for its command; those of a tour write it alone
abbrev pub Carried : Result Verdict Cause → List ℕ → List ℕ → Type 0
Carried (Err x) t t' = t' ≡ t
Carried (Ok (Verdict.Show l k)) t t' = t' ≡ t
Carried (Ok (Verdict.Insert k p)) t t' = Holds t' (change (Add p.number (InSteps p.position)) (book_of t))
Carried (Ok (Verdict.Delete k n)) t t' = Holds t' (change (Remove n) (book_of t))
Carried (Ok (Verdict.Place k p)) t t' = Holds t' (change (Move p.number (InSteps p.position)) (book_of t))
Carried (Ok (Verdict.Stand l)) t t' = Holds t' (change (Stand l) (book_of t))
Carried (Ok (Verdict.Begin p)) t t' = Holds t' (change (Begin p) (book_of t)) × Only tour_start tour_end t t'
Carried (Ok (Verdict.Follow l j n k)) t t' = Holds t' (change (Corner l.e) (book_of t)) × Only tour_start tour_end t t'

-- a verdict carried out: the table, and the record at byte `at` of the report
pub record Obeyed (v : Result Verdict Cause) (t w t' rep : List ℕ) (at : ℕ) (rep' : List ℕ) : Type 0 where
  pub carried : Carried v t t'
  pub report : rep' ≡ write rep at (record_of (reply_of (answer_of v) t w))

-- a batch ended as the outcome o says: result, report and table
pub record EndsAs (o : Outcome) (t rep : List ℕ) (r : BatchResult) (t' rep' : List ℕ) : Type 0 where
  pub said : return_of r ≡ returns (reason_number o.reason) o.used (length (records o.turns))
  pub report : rep' ≡ records o.turns ++ drop (length (records o.turns)) rep
  pub table : Chain t o.turns t'

-- as the book's run does
abbrev pub Answered : List ℕ → List ℕ → List ℕ → BatchResult → List ℕ → List ℕ → Type 0
Answered cs t rep r t' rep' = EndsAs (run cs (length rep) (book_of t)) t rep r t' rep'
