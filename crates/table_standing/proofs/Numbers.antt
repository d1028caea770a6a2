-- Rows of site numbers: the numbers of a list's sites, word by word.
-- Assumes nothing.
use mathlib.Core.Path.{◌≡◌, refl, sym, ap, ap₂, subst, subst⁻¹, ◌∙◌}
use mathlib.Core.List.{List, [], ◌∷◌, ◌++◌}
use Prim.Native.Nat.{ℕ, zero, suc, ◌+◌, ◌*◌, ◌≤◌, ◌<◌}
use native.Mathlib.Omega.{arith}
use native.Mathlib.Decide.{dec_lt}
use lib.ListN.{length, get_or}
use Rattle.words.specs.Words.{word_at, put_word, Only}
use Rattle.words.proofs.Frame.{only_refl, only_trans, only_wider, only_put_word, word_put_word, word_low, word_high}
use Rattle.grid.specs.declared.Leg.{Leg}
use Rattle.split.specs.SplitList.{Entry}
use Rattle.list_row.specs.Places.{site_at, HasSite}
use Rattle.list_row.specs.Vertices.{place_at, Held, entries_in}
use Rattle.list_row.specs.Entries.{row_entry}
use Rattle.list_row.proofs.Entries.{entries_one}
use Rattle.table_header.specs.Header.{length_in}
use Rattle.table_standing.specs.Layout.{list_start}
use Rattle.table_standing.specs.Standing.{words_from, standing_in, numbers_of, stored_number, NumberRow}

pub numbers_append : (a z : List Entry) → numbers_of (a ++ z) ≡ numbers_of a ++ numbers_of z
unfolding numbers_of
numbers_append [] z = refl
numbers_append (e ∷ a) z = ap (λ (x : List ℕ). e.site.number ∷ x) (numbers_append a z)

pub numbers_length : (es : List Entry) → length (numbers_of es) ≡ length es
unfolding numbers_of
numbers_length [] = refl
numbers_length (e ∷ es) = ap suc (numbers_length es)

words_length : (b : List ℕ) (i n : ℕ) → length (words_from b i n) ≡ n
unfolding words_from
words_length b i zero = refl
words_length b i (suc n) = ap suc (words_length b (i + 2) n)

word_of : (b : List ℕ) (i n j : ℕ) → j < n → get_or (words_from b i n) j 0 ≡ word_at b (i + 2 * j)
unfolding words_from
word_of b i zero j h = absurd (omega arith)
word_of b i (suc n) zero h = let e : i + 2 * 0 ≡ i = omega arith in ap (word_at b) (sym e)
word_of b i (suc n) (suc j) h = let e : i + 2 + 2 * j ≡ i + 2 * suc j = omega arith in word_of b (i + 2) n j (omega arith) ∙ ap (word_at b) e

-- the stored list has as many numbers as its length says
pub standing_length : (b : List ℕ) → length (standing_in b) ≡ length_in b
unfolding standing_in
standing_length b = words_length b list_start (length_in b)

-- and these
pub standing_number : (b : List ℕ) (i : ℕ) → i < length_in b → get_or (standing_in b) i 0 ≡ stored_number b i
unfolding standing_in
standing_number b i h = word_of b list_start (length_in b) i h

pub words_more : (b : List ℕ) (i n : ℕ) → words_from b i (suc n) ≡ words_from b i n ++ (word_at b (i + 2 * n) ∷ [])
unfolding words_from
words_more b i zero = let e : i + 2 * 0 ≡ i = omega arith in rw e
words_more b i (suc n) =
    let e : i + 2 + 2 * n ≡ i + 2 * suc n = omega arith in
    ap (λ (x : List ℕ). word_at b i ∷ x) (words_more b (i + 2) n ∙ ap (λ (j : ℕ). words_from b (i + 2) n ++ (word_at b j ∷ [])) e)

-- words that are the numbers of a row's sites are the numbers of the list
pub words_are : (l : Leg) (t r : List ℕ) (b : List ℕ) (o k : ℕ) → ((i : ℕ) → i < k → word_at b (o + 2 * i) ≡ (site_at t (place_at r i)).number)
    → words_from b o k ≡ numbers_of (entries_in l t r k)
unfolding words_from numbers_of
words_are l t r b o zero h = refl
words_are l t r b o (suc k) h =
    words_more b o k
    ∙ ap₂ (λ (x y : List ℕ). x ++ y) (words_are l t r b o k (λ i g. h i (omega arith))) (last (h k (omega arith)))
    ∙ sym (ap numbers_of (entries_one l t r k) ∙ numbers_append (entries_in l t r k) (row_entry l t r k ∷ []))
  where
    last : word_at b (o + 2 * k) ≡ (site_at t (place_at r k)).number → word_at b (o + 2 * k) ∷ [] ≡ numbers_of (row_entry l t r k ∷ [])
    last e = ap (λ (x : ℕ). x ∷ []) e

-- the first i places are replaced by numbers
pub record Numbering (t r : List ℕ) (k i : ℕ) (r' : List ℕ) : Type 0 where
  pub within : i ≤ k
  pub only : Only 0 (2 * i) r r'
  pub number : (j : ℕ) → j < i → word_at r' (2 * j) ≡ (site_at t (place_at r j)).number

pub numbering_none : (t r : List ℕ) (k : ℕ) → Numbering t r k 0 r
numbering_none t r k = record { within = omega arith; only = only_refl; number = λ j h. absurd (omega arith) }

module _ (l : Leg) (t r : List ℕ) (k i : ℕ) (r' : List ℕ) (hd : Held l t r k) (m : Numbering t r k i r') (lt : i < k) where
  -- the place that is read
  place_read : place_at r' i ≡ place_at r i
  unfolding place_at
  place_read = word_high m.only (2 * i) (omega arith)

  pub site_there : HasSite t (place_at r' i)
  site_there = subst⁻¹ (λ (p : ℕ). HasSite t p) place_read (hd.sites i lt)

  pub row_inside : 2 * i + 2 ≤ length r'
  row_inside = omega (arith, hd.inside, m.only.len)

  pub numbering_one : (n : ℕ) (r'' : List ℕ) → n ≡ (site_at t (place_at r' i)).number → r'' ≡ put_word r' (2 * i) n → Numbering t r k (i + 1) r''
  numbering_one n r'' en e =
      let o : Only (2 * i) (2 * i + 2) r' r'' = subst (λ (x : List ℕ). Only (2 * i) (2 * i + 2) r' x) (sym e) (only_put_word r' (2 * i) n) in
      record {
        within = omega arith;
        only = only_trans (only_wider (omega arith) (omega arith) m.only) (only_wider (omega arith) (omega arith) o);
        number = λ j h. go o j h (dec_lt j i);
      }
    where
      go : Only (2 * i) (2 * i + 2) r' r'' → (j : ℕ) → j < i + 1 → Dec (j < i) → word_at r'' (2 * j) ≡ (site_at t (place_at r j)).number
      go o j h (yes g) = word_low o (2 * j) (omega arith) ∙ m.number j g
      go o j h (no g) =
          let q : j ≡ i = omega arith in
          rw q (ap (λ (x : List ℕ). word_at x (2 * i)) e ∙ word_put_word r' (2 * i) n row_inside ∙ en ∙ ap (λ (p : ℕ). (site_at t p).number) place_read)

pub numbering_all : {t r : List ℕ} {k i : ℕ} {r' : List ℕ} → Numbering t r k i r' → k ≤ i → NumberRow t r k r'
numbering_all {k = k} {i = i} m h =
    record { only = only_wider (omega arith) (omega (arith, m.within)) m.only; number = λ j g. m.number j (omega arith) }
