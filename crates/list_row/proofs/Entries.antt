-- The entries of a row one by one.
-- Assumes nothing.
use mathlib.Core.Path.{◌≡◌, refl, ap, sym, ◌∙◌}
use mathlib.Core.List.{List, [], ◌∷◌, ◌++◌, append_assoc}
use Prim.Native.Nat.{ℕ, zero, suc, ◌-◌, ◌≤◌}
use native.Mathlib.Omega.{arith}
use lib.ListN.{length, drop, length-append, length-drop, drop_of_length-le}
use lib.Seq.{drop-append-le}
use Rattle.grid.specs.declared.Leg.{Leg}
use Rattle.grid.specs.Fraction.{zero_fraction}
use Rattle.split.specs.SplitList.{Entry}
use Rattle.split.specs.Hull.{Point}
use Rattle.split.specs.SplitOf.{changeover, entries_after, entries_along, onto}
use Rattle.list_row.specs.Vertices.{vertex_in, stack, entries_in}
use Rattle.list_row.specs.Entries.{row_entry, entries_from}

-- The entries of a row, one more.
onto_acc : (h acc : List Point) → onto h acc ≡ onto h [] ++ acc
onto_acc [] acc = refl
onto_acc (w ∷ h) acc = onto_acc h (w ∷ acc) ∙ sym (ap (λ (y : List Point). y ++ acc) (onto_acc h (w ∷ [])) ∙ append_assoc (onto h []) (w ∷ []) acc)

abbrev entry_of : Point → Point → Entry
entry_of u v = record { site = v.site; start = changeover u v }

after_snoc : (w : Point) (r : List Point) (u v : Point) → entries_after w (r ++ u ∷ v ∷ []) ≡ entries_after w (r ++ u ∷ []) ++ entry_of u v ∷ []
after_snoc w [] u v = refl
after_snoc w (x ∷ r) u v = ap (λ (y : List Entry). record { site = x.site; start = changeover w x } ∷ y) (after_snoc x r u v)

entries_snoc : (r : List Point) (u v : Point) → entries_along (r ++ u ∷ v ∷ []) ≡ entries_along (r ++ u ∷ []) ++ entry_of u v ∷ []
entries_snoc [] u v = refl
entries_snoc (w ∷ r) u v = ap (λ (y : List Entry). record { site = w.site; start = zero_fraction } ∷ y) (after_snoc w r u v)

module _ (l : Leg) (t r : List ℕ) where
  pub entries_one : (i : ℕ) → entries_in l t r (suc i) ≡ entries_in l t r i ++ row_entry l t r i ∷ []
  entries_one zero = refl
  entries_one (suc i) =
      ap entries_along (onto_acc (stack l t r i) (vertex_in l t r i ∷ vertex_in l t r (suc i) ∷ []))
      ∙ entries_snoc (onto (stack l t r i) []) (vertex_in l t r i) (vertex_in l t r (suc i))
      ∙ sym (ap (λ (y : List Point). entries_along y ++ row_entry l t r (suc i) ∷ []) (onto_acc (stack l t r i) (vertex_in l t r i ∷ [])))

  -- AS MANY ENTRIES AS VERTICES
  pub entries_length : (i : ℕ) → length (entries_in l t r i) ≡ i
  entries_length zero = refl
  entries_length (suc i) =
      ap length (entries_one i) ∙ length-append (entries_in l t r i) (row_entry l t r i ∷ []) ∙ (omega (arith, entries_length i))

  -- from the one at j on
  pub from_none : (j : ℕ) → entries_from l t r j j ≡ []
  from_none j = drop_of_length-le (entries_in l t r j) {i = j} (omega (arith, entries_length j))

  pub from_one : (j i : ℕ) → j ≤ i → entries_from l t r j (suc i) ≡ entries_from l t r j i ++ row_entry l t r i ∷ []
  from_one j i h =
      ap (drop j) (entries_one i) ∙ drop-append-le j (entries_in l t r i) (row_entry l t r i ∷ []) (omega (arith, entries_length i))

  pub from_length : (j i : ℕ) → length (entries_from l t r j i) ≡ i - j
  from_length j i = length-drop j (entries_in l t r i) ∙ ap (λ (n : ℕ). n - j) (entries_length i)
