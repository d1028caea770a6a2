-- The stored numbers beside those of a row, word by word.
-- Assumes nothing.
use mathlib.Core.Path.{◌≡◌, refl, sym, ap, ◌∙◌}
use mathlib.Core.List.{List, [], ◌∷◌, ◌++◌}
use Prim.Native.Nat.{ℕ, zero, suc, ◌+◌, ◌≤◌, ◌<◌}
use native.Mathlib.Omega.{arith}
use native.Mathlib.Decide.{dec_lt}
use lib.ListN.{length, get_or, get_or-append}
use lib.Seq.{get_or-append_seam}
use Rattle.limits.specs.Limits.{table_bytes}
use Rattle.grid.specs.declared.Leg.{Leg}
use Rattle.split.specs.SplitList.{Entry}
use Rattle.list_row.specs.Places.{site_at}
use Rattle.list_row.specs.Vertices.{place_at, Held, entries_in}
use Rattle.list_row.specs.Entries.{row_entry}
use Rattle.list_row.proofs.Entries.{entries_one, entries_length}
use Rattle.table_header.specs.Header.{length_in}
use Rattle.table_standing.specs.Layout.{list_start}
use Rattle.table_standing.specs.Standing.{words_from, standing_in, numbers_of, stored_number}
use Rattle.table_standing.proofs.Numbers.{numbers_append, numbers_length, words_are, standing_length, standing_number}

numbers_one : (e : Entry) → numbers_of (e ∷ []) ≡ e.site.number ∷ []
unfolding numbers_of
numbers_one e = refl

-- the numbers of a row's list, one by one
numbers_at : (l : Leg) (b r : List ℕ) (k j : ℕ) → j < k → get_or (numbers_of (entries_in l b r k)) j 0 ≡ (site_at b (place_at r j)).number
numbers_at l b r zero j h = absurd (omega arith)
numbers_at l b r (suc k) j h = ap (λ (x : List ℕ). get_or x j 0) split ∙ go (λ g. numbers_at l b r k j g) (dec_lt j k)
  where
    split : numbers_of (entries_in l b r (suc k)) ≡ numbers_of (entries_in l b r k) ++ (site_at b (place_at r k)).number ∷ []
    split = ap numbers_of (entries_one l b r k) ∙ numbers_append (entries_in l b r k) (row_entry l b r k ∷ []) ∙ ap (λ (x : List ℕ). numbers_of (entries_in l b r k) ++ x) (numbers_one (row_entry l b r k))

    long : length (numbers_of (entries_in l b r k)) ≡ k
    long = numbers_length (entries_in l b r k) ∙ entries_length l b r k

    go : (j < k → get_or (numbers_of (entries_in l b r k)) j 0 ≡ (site_at b (place_at r j)).number) → Dec (j < k)
        → get_or (numbers_of (entries_in l b r k) ++ (site_at b (place_at r k)).number ∷ []) j 0 ≡ (site_at b (place_at r j)).number
    go f (yes g) = get_or-append (numbers_of (entries_in l b r k)) ((site_at b (place_at r k)).number ∷ []) 0 j (omega (arith, long)) ∙ f g
    go f (no g) =
        let q : k ≡ j = omega arith in
        ap (λ (x : ℕ). get_or (numbers_of (entries_in l b r k) ++ (site_at b (place_at r k)).number ∷ []) x 0) (sym (long ∙ q))
        ∙ get_or-append_seam (numbers_of (entries_in l b r k)) (site_at b (place_at r k)).number [] 0
        ∙ ap (λ (x : ℕ). (site_at b (place_at r x)).number) q

-- i words match
pub record Matched (b r : List ℕ) (k i : ℕ) : Type 0 where
  pub within : i ≤ k
  pub same : (j : ℕ) → j < i → stored_number b j ≡ (site_at b (place_at r j)).number

pub matched_none : (b r : List ℕ) (k : ℕ) → Matched b r k 0
matched_none b r k = record { within = omega arith; same = λ j h. absurd (omega arith) }

module _ (l : Leg) (b r : List ℕ) (k : ℕ) (len : length b ≡ table_bytes) (hd : Held l b r k) where
  pub matched_one : (i n s : ℕ) → Matched b r k i → i < k → n ≡ (site_at b (place_at r i)).number → s ≡ stored_number b i → n ≡ s → Matched b r k (i + 1)
  matched_one i n s m h en es e = record { within = omega arith; same = λ j g. go j g (dec_lt j i) }
    where
      go : (j : ℕ) → j < i + 1 → Dec (j < i) → stored_number b j ≡ (site_at b (place_at r j)).number
      go j g (yes d) = m.same j d
      go j g (no d) = let q : j ≡ i = omega arith in rw q (sym es ∙ sym e ∙ en)

  -- THE LISTS ARE THE SAME
  pub matched_all : (n i : ℕ) → n ≡ length_in b → n ≡ k → Matched b r k i → k ≤ i → standing_in b ≡ numbers_of (entries_in l b r k)
  unfolding standing_in
  matched_all n i en e m h = ap (words_from b list_start) (sym en ∙ e) ∙ words_are l b r b list_start k (λ j g. m.same j (omega (arith, m.within)))

  -- of another length
  pub other_length : (n : ℕ) → n ≡ length_in b → (n ≡ k → ⊥) → ¬ (standing_in b ≡ numbers_of (entries_in l b r k))
  other_length n en h e =
      h (omega (arith, standing_length b, ap length e, numbers_length (entries_in l b r k), entries_length l b r k))

  -- of another number
  pub other_number : (i n s : ℕ) → i < k → n ≡ (site_at b (place_at r i)).number → s ≡ stored_number b i → (n ≡ s → ⊥)
      → ¬ (standing_in b ≡ numbers_of (entries_in l b r k))
  other_number i n s h en es d e =
      let long : length_in b ≡ k = sym (standing_length b) ∙ ap length e ∙ numbers_length (entries_in l b r k) ∙ entries_length l b r k in
      d
      (en
      ∙ sym (numbers_at l b r k i h)
      ∙ sym (ap (λ (x : List ℕ). get_or x i 0) e)
      ∙ standing_number b i (omega (arith, h, long))
      ∙ sym es)
