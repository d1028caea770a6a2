-- Record 3D read back: what a reader makes of its bytes. Document 01, "Buffers and batches".
-- Assumes nothing.
use Rattle.std.specs.Prelude.{List, [], ◌∷◌, ℕ, zero, suc, ◌+◌, ◌*◌, get_or, drop}
use Rattle.grid.specs.declared.Fraction.{Fraction}
use Rattle.split.specs.SplitList.{Entry}
use Rattle.records.specs.ListRecord.{head_size, entry_size}

-- an entry as the record has it: a site's number and a start
pub record Listed : Type 0 where
  pub number : ℕ
  pub start : Fraction

-- an entry of a list as the record has it: of the site its number alone
abbrev pub listed_of : Entry → Listed
listed_of e = record { number = e.site.number; start = e.start }

-- the 16-bit number at byte i, lowest byte first
unfoldable pub read2 : List ℕ → ℕ → ℕ
read2 s i = get_or s i 0 + 256 * get_or s (i + 1) 0

-- the 32-bit number at byte i, lowest byte first
unfoldable pub read4 : List ℕ → ℕ → ℕ
read4 s i = get_or s i 0 + 256 * get_or s (i + 1) 0 + 65536 * get_or s (i + 2) 0 + 16777216 * get_or s (i + 3) 0

-- the entry that the bytes begin with: "the site, numerator and denominator (32 bits each)"
abbrev pub read_entry : List ℕ → Listed
read_entry s = record { number = read2 s 0; start = record { num = read4 s 2; den = read4 s 6 } }

-- k entries behind each other
unfoldable pub read_list : ℕ → List ℕ → List Listed
read_list zero s = []
read_list (suc k) s = read_entry s ∷ read_list k (drop entry_size s)

-- the record: "3D, a 16-bit count, then per entry .."
unfoldable pub read_record : List ℕ → List Listed
read_record s = read_list (read2 s 1) (drop head_size s)
