-- What a command is answered, and the record: its bytes and their number. Document 01, "Buffers and batches": "Report
-- records: 2B for an accepted change or 53; 21 and the refusal number as a byte; 3D, a 16-bit count, then per entry
-- ..".
-- Assumes nothing.
use Rattle.std.specs.Prelude.{List, [], ◌∷◌, ℕ, length}
use Rattle.split.specs.SplitList.{Entry}
use Rattle.records.specs.ListRecord.{record_bytes, list_size}
use Rattle.book.specs.declared.Cause.{Cause}
use Rattle.book.specs.Numbers.{cause_number}

-- accepted, refused for a cause, or answered by a list
pub data Reply : Type 0 where
  done : Reply
  refused : Cause → Reply
  listed : List Entry → Reply

-- the record: 2B; 21 and a byte; 3D and a list
abbrev pub record_of : Reply → List ℕ
record_of done = 0x2B ∷ []
record_of (refused c) = 0x21 ∷ cause_number c ∷ []
record_of (listed es) = record_bytes es

-- how long it is (`record_size_lem` in proofs/Lists.antt)
abbrev pub record_size : Reply → ℕ
record_size done = 1
record_size (refused c) = 2
record_size (listed es) = list_size (length es)
