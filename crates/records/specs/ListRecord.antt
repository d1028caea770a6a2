-- Record 3D: "3D, a 16-bit count, then per entry the site, numerator and denominator (32 bits each)". Document 01,
-- "Buffers and batches".
-- Assumes nothing.
use Rattle.std.specs.Prelude.{List, [], ◌∷◌, ◌++◌, ℕ, ◌+◌, ◌*◌, length}
use Rattle.split.specs.SplitList.{Entry}
use Rattle.records.specs.Bytes.{bytes2, bytes4}

-- an entry: the site's number, the start
unfoldable pub entry_bytes : Entry → List ℕ
entry_bytes e = bytes2 e.site.number ++ bytes4 e.start.num ++ bytes4 e.start.den

-- the entries in turn
unfoldable pub list_bytes : List Entry → List ℕ
list_bytes [] = []
list_bytes (e ∷ es) = entry_bytes e ++ list_bytes es

-- the whole record
unfoldable pub record_bytes : List Entry → List ℕ
record_bytes es = 0x3D ∷ bytes2 (length es) ++ list_bytes es

-- the bytes of mark and count
abbrev pub head_size : ℕ
head_size = 3

-- the bytes of an entry: 2 + 4 + 4
abbrev pub entry_size : ℕ
entry_size = 10

-- the bytes of a record of k entries
abbrev pub list_size : ℕ → ℕ
list_size k = head_size + entry_size * k
