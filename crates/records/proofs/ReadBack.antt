-- Record 3D is read back: nothing is cut off.
-- Assumes nothing.
use mathlib.Core.Path.{◌≡◌, refl, ap, ◌∙◌, subst}
use mathlib.Core.List.{List, [], ◌∷◌, ◌++◌, append_assoc, append-nil, map, Memᴰ}
use Prim.Native.Nat.{ℕ, ◌+◌, ◌*◌, ◌/◌, ◌%◌, ◌^◌, ◌<◌}
use native.Mathlib.Nat.{div-add-mod, mod-eq_of_lt}
use native.Mathlib.Omega.{arith}
use lib.ListN.{length, drop}
use Rattle.split.specs.SplitList.{Entry}
use Rattle.records.specs.ListRecord.{entry_bytes, list_bytes, record_bytes}
use Rattle.records.specs.Decode.{Listed, listed_of, read2, read4, read_entry, read_list, read_record}

-- two bytes hold a number below 65,536
pub bytes2_hold : (x : ℕ) → x < 65536 → x % 256 + 256 * (x / 256 % 256) ≡ x
bytes2_hold x h = omega arith

-- four bytes hold a number below 4,294,967,296
pub bytes4_hold : (x : ℕ) → x < 2 ^ 32 → x % 256 + 256 * (x / 256 % 256) + 65536 * (x / 65536 % 256) + 16777216 * (x / 16777216 % 256) ≡ x
bytes4_hold x h =
    let e : x / 65536 ≡ x / 256 / 256 = omega arith in
    let f : x / 16777216 ≡ x / 65536 / 256 = omega arith in
    let g : x / 16777216 % 256 ≡ x / 16777216 = mod-eq_of_lt (omega arith) in
    omega (arith, div-add-mod x 256, div-add-mod (x / 256) 256, div-add-mod (x / 65536) 256)

-- an entry whose numbers the record's fields hold
pub record EntrySmall (e : Entry) : Type 0 where
  pub number : e.site.number < 65536
  pub num : e.start.num < 2 ^ 32
  pub den : e.start.den < 2 ^ 32

-- one entry is read back
pub read_entry_lem : (e : Entry) (s : List ℕ) → EntrySmall e → read_entry (entry_bytes e ++ s) ≡ listed_of e
unfolding entry_bytes read2 read4
read_entry_lem e s h = λ i. record {
  number = bytes2_hold e.site.number h.number i;
  start = record { num = bytes4_hold e.start.num h.num i; den = bytes4_hold e.start.den h.den i };
}

-- the next begins behind it
drop_entry : (e : Entry) (s : List ℕ) → drop 10 (entry_bytes e ++ s) ≡ s
unfolding entry_bytes
drop_entry e s = refl

-- the entries are read back, whatever stands behind them
pub read_list_lem : (es : List Entry) (s : List ℕ) → ((e : Entry) → Memᴰ e es → EntrySmall e) → read_list (length es) (list_bytes es ++ s) ≡ map listed_of es
unfolding read_list list_bytes
read_list_lem [] s h = refl
read_list_lem (e ∷ es) s h =
    ap (read_list (length (e ∷ es))) (append_assoc (entry_bytes e) (list_bytes es) s)
    ∙ (λ i. read_entry_lem e (list_bytes es ++ s) (h e (Memᴰ.head refl)) i ∷ read_list (length es) (drop_entry e (list_bytes es ++ s) i))
    ∙ ap (λ (y : List Listed). listed_of e ∷ y) (read_list_lem es s (λ f m. h f (Memᴰ.tail m)))

-- the count is read back
pub read_count : (es : List Entry) (s : List ℕ) → length es < 65536 → read2 (record_bytes es ++ s) 1 ≡ length es
unfolding record_bytes read2
read_count es s l = bytes2_hold (length es) l

-- THE RECORD IS READ BACK, whatever stands behind it
pub read_front : (es : List Entry) (s : List ℕ) → length es < 65536 → ((e : Entry) → Memᴰ e es → EntrySmall e)
    → read_record (record_bytes es ++ s) ≡ map listed_of es
unfolding read_record record_bytes
read_front es s l h = ap (λ (k : ℕ). read_list k (list_bytes es ++ s)) (read_count es s l) ∙ read_list_lem es s h

-- THE RECORD IS READ BACK: every number and start of the list
pub read_record_lem : (es : List Entry) → length es < 65536 → ((e : Entry) → Memᴰ e es → EntrySmall e) → read_record (record_bytes es) ≡ map listed_of es
read_record_lem es l h = subst (λ (b : List ℕ). read_record b ≡ map listed_of es) (append-nil (record_bytes es)) (read_front es [] l h)
