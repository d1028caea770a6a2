-- What each public call says of its result and of every lent byte, for good and for refused input. Document 01,
-- "Buffers and batches" and "Causes and numbers". The contracts of the service's calls are these definitions.
-- Reasons are document 01's numbers.
-- Assumes nothing.
use Rattle.std.specs.Prelude.{◌≡◌, List, ◌++◌, Bool, true, false, ◌&&◌, ℕ, length, drop, eqb}
use Rattle.limits.specs.Limits.{table_bytes, work_bytes}
use Rattle.book.specs.declared.BatchResult.{BatchResult}
use Rattle.book.specs.Numbers.{reason_number}
use Rattle.book.specs.Run.{Outcome, records, run}
use Rattle.table_rules.specs.Table.{Whole, StandingOk, Sound, book_of}
use Rattle.table_empty.specs.EmptyTable.{zeros, empty_table}
use Rattle.demands.specs.Step.{Chain}

-- "It returns a reason, the command bytes used and the report bytes written."
pub record Return : Type 0 where
  pub reason : ℕ
  pub used : ℕ
  pub written : ℕ

-- these three numbers
abbrev pub returns : ℕ → ℕ → ℕ → Return
returns reason used written = record { reason = reason; used = used; written = written }

-- what the code returns, its reason by document 01's number
abbrev pub return_of : BatchResult → Return
return_of r = returns (reason_number r.reason) r.used r.written

-- "The table is exactly 32,768 lent bytes"; the work buffer is as long as document 02, C-21, has it
abbrev pub lengths_ok : List ℕ → List ℕ → Bool
lengths_ok t w = eqb (length t) table_bytes && eqb (length w) work_bytes

-- the whole call is refused: its number, "used 0, written 0"; table and report are left
pub record Refused (number : ℕ) (t rep : List ℕ) (r : Return) (t' rep' : List ℕ) : Type 0 where
  pub said : r ≡ returns number 0 0
  pub table : t' ≡ t
  pub report : rep' ≡ rep

-- the call did what the book does: result, report bytes ("Report bytes past the written ones are left"), table,
-- work buffer
pub record Served (o : Outcome) (t rep : List ℕ) (r : Return) (t' w' rep' : List ℕ) : Type 0 where
  pub said : r ≡ returns (reason_number o.reason) o.used (length (records o.turns))
  pub report : rep' ≡ records o.turns ++ drop (length (records o.turns)) rep
  pub table : Chain t o.turns t'
  -- "The work buffer is all zero afterwards"
  pub work : w' ≡ zeros work_bytes

-- ONE BATCH CALL: table, work buffer, commands and report before; the result; table, work buffer and report after.
-- It is one of four: "The table's length is tested first, then the work buffer's, then the table's contents, then
-- commands in turn." Document 02, C-17: 69 is "tested directly after 65".
pub data Batch (t w cs rep : List ℕ) (r : Return) (t' w' rep' : List ℕ) : Type 0 where
  -- "table or work buffer of wrong length", 64: everything is left
  wrong : lengths_ok t w ≡ false → Refused 64 t rep r t' rep' → w' ≡ w → Batch t w cs rep r t' w' rep'
  -- C-17: "65 is kept for the layout and the rules on tree, sites and tour": table and report are left
  broken : lengths_ok t w ≡ true → ¬ Whole t → Refused 65 t rep r t' rep' → w' ≡ zeros work_bytes
      → Batch t w cs rep r t' w' rep'
  -- "A sound tree with a wrong standing list, or a standing leg off the grid", 69: "the buffers are left as with 65"
  broken_standing : lengths_ok t w ≡ true → Whole t → ¬ StandingOk t → Refused 69 t rep r t' rep' → w' ≡ zeros work_bytes
      → Batch t w cs rep r t' w' rep'
  -- commands are taken
  served : lengths_ok t w ≡ true → Sound t → Served (run cs (length rep) (book_of t)) t rep r t' w' rep'
      → Batch t w cs rep r t' w' rep'

-- ONE LAYING-OUT CALL: the table before, the reason's number, the table after. "The laying-out call returns 0, or
-- 64 and leaves the bytes."
pub data LaidOut (t : List ℕ) (r : ℕ) (t' : List ℕ) : Type 0 where
  wrong : eqb (length t) table_bytes ≡ false → r ≡ 64 → t' ≡ t → LaidOut t r t'
  laid : eqb (length t) table_bytes ≡ true → r ≡ 0 → t' ≡ empty_table → LaidOut t r t'
