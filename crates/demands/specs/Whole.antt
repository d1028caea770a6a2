-- A whole list of batch calls on a table just laid out, and the site book beside it. Document 01, "The site book".
-- Assumes nothing.
use Rattle.std.specs.Prelude.{◌≡◌, List, [], ◌∷◌, ◌++◌, map, ℕ, ◌≤◌, length, take}
use Rattle.limits.specs.Limits.{work_bytes}
use Rattle.grid.specs.declared.Site.{Site}
use Rattle.book.specs.Numbers.{reason_number}
use Rattle.book.specs.Book.{Book, empty_book}
use Rattle.book.specs.Encode.{additions}
use Rattle.book.specs.Run.{Outcome, records, call}
use Rattle.book.specs.Listener.{Exchange, hear_records, commands_in}
use Rattle.demands.specs.Batch.{Return, Batch, LaidOut}

-- a batch call as it was made and as it returned
pub record Call : Type 0 where
  pub work : List ℕ
  pub commands : List ℕ
  pub report : List ℕ
  pub result : Return
  pub work_after : List ℕ
  pub report_after : List ℕ

-- the call was made on the table t and left the table t'
abbrev pub MadeOn : List ℕ → Call → List ℕ → Type 0
MadeOn t c t' = Batch t c.work c.commands c.report c.result t' c.work_after c.report_after

-- "Each call gets the table as the call before left it, the first as laid out, and nobody else writes it meanwhile."
pub data Made : List ℕ → List Call → List ℕ → Type 0 where
  none : {t : List ℕ} → Made t [] t
  next : {t t₁ t' : List ℕ} {c : Call} {cs : List Call} → MadeOn t c t₁ → Made t₁ cs t' → Made t (c ∷ cs) t'

-- the calls cs were made on a table just laid out, and left the table t'
pub record Ran (cs : List Call) (t' : List ℕ) : Type 0 where
  pub before : List ℕ
  pub laid_table : List ℕ
  pub laid : LaidOut before 0 laid_table
  pub made : Made laid_table cs t'

-- "Reason, used, written and the written report bytes are compared with the book's."
pub record Said : Type 0 where
  pub reason : ℕ
  pub used : ℕ
  pub written : ℕ
  pub bytes : List ℕ

-- what a call said
abbrev pub said : Call → Said
said c =
    record {
      reason = c.result.reason;
      used = c.result.used;
      written = c.result.written;
      bytes = take c.result.written c.report_after;
    }

-- "It is fed each batch call's command bytes and the lengths of its work and report buffers, and nothing that the
-- service answers or keeps."
pub record Ask : Type 0 where
  pub work : ℕ
  pub commands : List ℕ
  pub room : ℕ

-- what the book is fed of a call
abbrev pub asked : Call → Ask
asked c = record { work = length c.work; commands = c.commands; room = length c.report }

-- how the book takes a call where a work buffer of n bytes is asked for
abbrev pub taken_asking : ℕ → Ask → Book → Outcome
taken_asking n a b = call n a.work a.commands a.room b

-- how it takes a call. Document 02, C-21: "with 64 tested against that"
abbrev pub taken : Ask → Book → Outcome
taken a b = taken_asking work_bytes a b

-- what the book says
abbrev pub said_by : Outcome → Said
said_by o =
    record {
      reason = reason_number o.reason;
      used = o.used;
      written = length (records o.turns);
      bytes = records o.turns;
    }

-- what the book says to a list of calls where a work buffer of n bytes is asked for
unfoldable pub replies_asking : ℕ → Book → List Ask → List Said
replies_asking n b [] = []
replies_asking n b (a ∷ more) = said_by (taken_asking n a b) ∷ replies_asking n (taken_asking n a b).book more

-- what it says to a list of calls
abbrev pub replies : Book → List Ask → List Said
replies b asks = replies_asking work_bytes b asks

-- the book after a list of calls
unfoldable pub book_after : Book → List Ask → Book
book_after b [] = b
book_after b (a ∷ more) = book_after (taken a b).book more

-- the book after the calls, from laying out on
abbrev pub book_of_run : List Call → Book
book_of_run cs = book_after empty_book (map asked cs)

-- what a listener hears of a call: the commands in the bytes that it used, and the records that it wrote, read back
abbrev pub heard_in : Call → List Exchange
heard_in c = hear_records (commands_in c.commands c.result.used) (said c).bytes

-- of a list of calls, one after the other
unfoldable pub heard_of_run : List Call → List Exchange
heard_of_run [] = []
heard_of_run (c ∷ cs) = heard_in c ++ heard_of_run cs

-- "given a 41 for each line of the book, in any order and any batches with room for the records":
-- the asks are additions of these sites and nothing else, with a work buffer of the right length
pub data Filled : List Ask → List Site → Type 0 where
  none : Filled [] []
  next : {a : Ask} {asks : List Ask} {more : List Site} (s : List Site)
      → a.work ≡ work_bytes → a.commands ≡ additions s → length s ≤ a.room
      → Filled asks more → Filled (a ∷ asks) (s ++ more)

-- the call on the table t is just these command bytes, with a work buffer of the right length, and leaves t'
pub record Asks (t bytes : List ℕ) (c : Call) (t' : List ℕ) : Type 0 where
  pub made : MadeOn t c t'
  pub commands : c.commands ≡ bytes
  pub work : length c.work ≡ work_bytes

-- "with room enough": the record fits
abbrev pub HasRoom : Call → List ℕ → Type 0
HasRoom c bytes = length bytes ≤ length c.report

-- the call used all its commands, with reason 0, and wrote just this record
abbrev pub WroteReport : Call → List ℕ → Type 0
WroteReport c bytes = said c ≡ record { reason = 0; used = length c.commands; written = length bytes; bytes = bytes }
