-- How long record 3D is: three bytes, and ten for each entry.
-- Assumes nothing.
use mathlib.Core.Path.{◌≡◌, refl, ap, sym, ◌∙◌}
use mathlib.Core.List.{List, [], ◌∷◌, ◌++◌, append_assoc, append-nil}
use Prim.Native.Nat.{ℕ, ◌*◌}
use native.Mathlib.Omega.{arith}
use lib.ListN.{length, length-append}
use Rattle.split.specs.SplitList.{Entry}
use Rattle.records.specs.ListRecord.{entry_bytes, list_bytes, record_bytes, list_size}

-- an entry has ten bytes
pub entry_length : (e : Entry) → length (entry_bytes e) ≡ 10
unfolding entry_bytes
entry_length e = refl

-- the entries' bytes
pub list_length : (es : List Entry) → length (list_bytes es) ≡ 10 * length es
unfolding list_bytes
list_length [] = refl
list_length (e ∷ es) = length-append (entry_bytes e) (list_bytes es) ∙ omega (arith, entry_length e, list_length es)

-- THE RECORD'S LENGTH
pub record_length : (es : List Entry) → length (record_bytes es) ≡ list_size (length es)
unfolding record_bytes
record_length es = omega (arith, list_length es)

-- lists behind each other
pub list_append : (es fs : List Entry) → list_bytes (es ++ fs) ≡ list_bytes es ++ list_bytes fs
unfolding list_bytes
list_append [] fs = refl
list_append (e ∷ es) fs = ap (λ (y : List ℕ). entry_bytes e ++ y) (list_append es fs) ∙ sym (append_assoc (entry_bytes e) (list_bytes es) (list_bytes fs))

-- one entry
pub list_one : (e : Entry) → list_bytes (e ∷ []) ≡ entry_bytes e
unfolding list_bytes
list_one e = append-nil (entry_bytes e)
