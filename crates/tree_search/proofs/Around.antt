-- Going around a node's entries: one after the other, and all of them once.
-- Assumes nothing.
use mathlib.Core.Path.{◌≡◌, refl, sym, ap, ◌∙◌}
use mathlib.Core.Logic.{⊎_elim}
use mathlib.Core.List.{List, [], ◌∷◌, ◌++◌}
use Prim.Native.Nat.{ℕ, suc, ◌+◌, ◌-◌, ◌≤◌, ◌<◌}
use native.Mathlib.Omega.{arith}
use lib.ListN.{length, get_or, take, drop, length-append, length-drop, take-append-drop, get_or-append}
use lib.Seq.{drop-cons, drop_at, take-append-le, drop-append-le, take-append-add}
use Rattle.tree_node.specs.declared.NodeEntry.{NodeEntry}
use Rattle.tree_node.specs.Node.{no_entry}
use Rattle.tree_node.proofs.Counting.{le_or_lt}
use Rattle.permutation.specs.Perm.{Perm}
use Rattle.permutation.specs.Perm.Perm.{trans}
use Rattle.permutation.proofs.Perms.{perm_is, perm_flip}
use Rattle.tree_search.specs.Searching.{ComesNext}

-- so many of l, from the ith on, where the first follows the last
unfoldable pub around : List NodeEntry → ℕ → ℕ → List NodeEntry
around l i left = take left (drop i (l ++ l))

pub follows_in : {m i j : ℕ} → i < m → ComesNext m i j → j < m
follows_in {m} {i} {j} lt f =
    ⊎_elim (λ (h : m ≤ i + 1). omega (arith, f.last h)) (λ (h : i + 1 < m). omega (arith, f.inner h)) (le_or_lt m (i + 1))

-- some entry follows
pub follow : (m i : ℕ) → (j : ℕ) × ComesNext m i j
follow m i =
    ⊎_elim
    (λ (h : m ≤ i + 1). (0, record { inner = λ g. absurd (omega arith); last = λ g. refl }))
    (λ (h : i + 1 < m). (i + 1, record { inner = λ g. refl; last = λ g. absurd (omega arith) }))
    (le_or_lt m (i + 1))

module _ (l : List NodeEntry) where
  pub around_none : (i : ℕ) → around l i 0 ≡ []
  unfolding around
  around_none i = refl

  -- what is left after entry i goes on at the next one
  around_next : (i j left : ℕ) → i < length l → left ≤ length l → ComesNext (length l) i j → take left (drop (suc i) (l ++ l)) ≡ around l j left
  unfolding around
  around_next i j left lt le f =
      ⊎_elim
      (λ (h : length l ≤ i + 1).
      let end : length l ≡ suc i = omega arith in
      let at : drop (suc i) (l ++ l) ≡ l = drop_at l l (suc i) end in
      rw (f.last h, at) (sym (take-append-le left l l le)))
      (λ (h : i + 1 < length l). let q : j ≡ suc i = omega (arith, f.inner h) in rw q)
      (le_or_lt (length l) (i + 1))

  around_cons : (i left : ℕ) (x : NodeEntry) (r : List NodeEntry) → left ≡ suc (left - 1) → drop i (l ++ l) ≡ x ∷ r → around l i left ≡ x ∷ take (left - 1) r
  unfolding around
  around_cons i left x r up first = ap (λ (n : ℕ). take n (drop i (l ++ l))) up ∙ ap (take (suc (left - 1))) first

  pub around_step : (i j left : ℕ) → i < length l → 0 < left → left ≤ length l → ComesNext (length l) i j
      → around l i left ≡ get_or l i no_entry ∷ around l j (left - 1)
  around_step i j left lt some le f =
      let up : left ≡ suc (left - 1) = omega arith in
      let first : drop i (l ++ l) ≡ get_or l i no_entry ∷ drop (suc i) (l ++ l) =
      drop-cons (l ++ l) i no_entry (omega (arith, length-append l l)) ∙ rw (get_or-append l l no_entry i lt) in
      around_cons i left (get_or l i no_entry) (drop (suc i) (l ++ l)) up first
      ∙ ap (λ (r : List NodeEntry). get_or l i no_entry ∷ r) (around_next i j (left - 1) lt (omega arith) f)

  -- ALL OF THEM, ONCE
  pub around_all : (i : ℕ) → i ≤ length l → Perm (around l i (length l)) l
  unfolding around
  around_all i le =
      let m : length l ≡ length (drop i l) + i = omega (arith, length-drop i l) in
      let turned : take (length l) (drop i (l ++ l)) ≡ drop i l ++ take i l =
      ap (take (length l)) (drop-append-le i l l le) ∙ ap (λ (x : ℕ). take x (drop i l ++ l)) m ∙ take-append-add (drop i l) l i in
      trans (perm_is turned) (trans (perm_flip (drop i l) (take i l)) (perm_is (take-append-drop i l)))
