-- The bytes of entries, and of a record.
-- Assumes nothing.
use mathlib.Core.Path.{◌≡◌, ap, sym, ◌∙◌}
use mathlib.Core.List.{List, [], ◌∷◌, ◌++◌}
use Prim.Native.Nat.{ℕ, ◌+◌, ◌<◌}
use native.Mathlib.Omega.{arith}
use lib.ListN.{length}
use Rattle.words.specs.Words.{put_word}
use Rattle.grid.specs.declared.Fraction.{Fraction}
use Rattle.split.specs.SplitList.{Entry}
use Rattle.records.specs.Bytes.{bytes2, bytes4, write}
use Rattle.records.specs.ListRecord.{entry_bytes, list_bytes, record_bytes}
use Rattle.call_record.specs.Starts.{start_bytes}
use Rattle.records.proofs.Writing.{write_append}
use Rattle.call_record.proofs.Writing.{put_word_is}

-- The return of `put_start`.
pub start_wrote : (b b₁ b₂ b₃ : List ℕ) (i n : ℕ) (s : Fraction) → n < 65536 → b₁ ≡ put_word b i n → b₂ ≡ write b₁ (i + 2) (bytes4 s.num)
    → b₃ ≡ write b₂ (i + 6) (bytes4 s.den) → b₃ ≡ write b i (start_bytes n s)
unfolding start_bytes
start_wrote b b₁ b₂ b₃ i n s small e₁ e₂ e₃ =
    let h : i + 6 ≡ i + 2 + 4 = omega arith in
    e₃ ∙ ap (λ (y : List ℕ). write y (i + 6) (bytes4 s.den)) (e₂ ∙ ap (λ (y : List ℕ). write y (i + 2) (bytes4 s.num)) (put_word_is b b₁ i n small e₁))
    ∙ (λ j. write (write (write b i (bytes2 n)) (i + 2) (bytes4 s.num)) (h j) (bytes4 s.den))
    ∙ sym (write_append (write b i (bytes2 n)) (i + 2) (bytes4 s.num) (bytes4 s.den))
    ∙ sym (write_append b i (bytes2 n) (bytes4 s.num ++ bytes4 s.den))

-- The return of `put_starts`.
pub starts_wrote : (b b₁ b₂ : List ℕ) (i j n m : ℕ) (s s' q q' : Fraction) → (s ≡ s') × (q ≡ q') → b₁ ≡ write b i (start_bytes n s)
    → b₂ ≡ write b₁ j (start_bytes m q) → b₂ ≡ write (write b i (start_bytes n s')) j (start_bytes m q')
starts_wrote b b₁ b₂ i j n m s s' q q' e e₁ e₂ =
    e₂ ∙ ap (λ (y : List ℕ). write y j (start_bytes m q)) e₁ ∙ (λ k. write (write b i (start_bytes n (e.0 k))) j (start_bytes m (e.1 k)))

-- The bytes of an entry.
entry_bytes_lem : (n : ℕ) (s : Fraction) (e : Entry) → n ≡ e.site.number → s ≡ e.start → start_bytes n s ≡ entry_bytes e
unfolding start_bytes entry_bytes
entry_bytes_lem n s e en es = λ j. bytes2 (en j) ++ bytes4 (es j).num ++ bytes4 (es j).den

-- The return of `put_entry`.
pub entry_is : (b b' : List ℕ) (i n : ℕ) (s : Fraction) (e : Entry) → b' ≡ write b i (start_bytes n s) → n ≡ e.site.number → s ≡ e.start → b' ≡ write b i (entry_bytes e)
entry_is b b' i n s e h en es = h ∙ ap (write b i) (entry_bytes_lem n s e en es)

-- The return of `put_two`.
pub two_are : (b b' : List ℕ) (i j n m : ℕ) (s q : Fraction) (e d : Entry) → b' ≡ write (write b i (start_bytes n s)) j (start_bytes m q)
    → n ≡ e.site.number → s ≡ e.start → m ≡ d.site.number → q ≡ d.start → b' ≡ write (write b i (entry_bytes e)) j (entry_bytes d)
two_are b b' i j n m s q e d h en es dn ds = h ∙ (λ k. write (write b i (entry_bytes_lem n s e en es k)) j (entry_bytes_lem m q d dn ds k))

-- The return of `put_list`.
pub record_is : (es : List Entry) (b b₁ b₂ : List ℕ) (p n : ℕ) → n ≡ length es → n < 65536 → b₁ ≡ put_word (write b p (0x3D ∷ [])) (p + 1) n
    → b₂ ≡ write b₁ (p + 3) (list_bytes es) → b₂ ≡ write b p (record_bytes es)
unfolding record_bytes
record_is es b b₁ b₂ p n en small e₁ e₂ =
    let h : p + 3 ≡ p + 1 + 2 = omega arith in
    e₂ ∙ ap (λ (y : List ℕ). write y (p + 3) (list_bytes es)) (put_word_is (write b p (0x3D ∷ [])) b₁ (p + 1) n small e₁)
    ∙ (λ j. write (write (write b p (0x3D ∷ [])) (p + 1) (bytes2 (en j))) (h j) (list_bytes es))
    ∙ sym (write_append (write b p (0x3D ∷ [])) (p + 1) (bytes2 (length es)) (list_bytes es))
