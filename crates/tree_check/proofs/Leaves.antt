-- The leaf entries of lines. Where numbers rise, each line has an index, and a leaf entry that is known by its number.
-- Assumes nothing.
use mathlib.Core.List.{List, [], ◌∷◌, ◌++◌}
use mathlib.Core.Path.{◌≡◌, refl, sym, ap, ◌∙◌}
use Prim.Native.Nat.{ℕ, zero, suc, ◌<◌}
use native.Mathlib.Omega.{arith}
use borrow.Author.Tests.{eq-eqb, ne_eqb}
use lib.ListN.{length, get_or}
use Rattle.grid.specs.declared.Site.{Site}
use Rattle.book.specs.Proper.{Rising}
use Rattle.table_sites.specs.Lines.{lines_in, no_site, number_of}
use Rattle.table_sites.proofs.Order.{rising_at, rising_tail}
use Rattle.tree_node.specs.declared.NodeEntry.{NodeEntry}
use Rattle.tree_rules.specs.Tree.{Each}
use Rattle.tree_rules.specs.Rooted.{leaves_in}
use Rattle.tree_rules.proofs.Members.{same_length}
use Rattle.tree_check.specs.Leaves.{leaf_entry, leaf_entries, index_of, Known}
use Rattle.tree_check.specs.Tied.{Tied}

pub leaves_append : (s u : List Site) → leaf_entries (s ++ u) ≡ leaf_entries s ++ leaf_entries u
unfolding leaf_entries
leaves_append [] u = refl
leaves_append (p ∷ s) u = ap (λ (l : List NodeEntry). leaf_entry p ∷ l) (leaves_append s u)

leaves_length : (s : List Site) → length (leaf_entries s) ≡ length s
unfolding leaf_entries
leaves_length [] = refl
leaves_length (p ∷ s) = ap suc (leaves_length s)

-- as many leaf entries as lines
pub tied_count : (b : List ℕ) → Tied b → length (leaves_in b) ≡ length (lines_in b)
tied_count b t = same_length (leaves_in b) (leaf_entries (lines_in b)) t.leaf ∙ leaves_length (lines_in b)

-- the line that has the number x is found by it
pub index_of_lem : (s : List Site) → Rising s → (k x : ℕ) → k < length s → number_of s k ≡ x → index_of s x ≡ k
unfolding index_of
index_of_lem [] r k x h e = absurd (omega arith)
index_of_lem (p ∷ s) r zero x h e = rw (eq-eqb p.number x e)
index_of_lem (p ∷ s) r (suc k) x h e =
    let below = rising_at (p ∷ s) r 0 (suc k) (omega arith) h in
    rw (ne_eqb p.number x (λ q. omega arith)) (ap suc (index_of_lem s (rising_tail p s r) k x (omega arith) e))

-- a known entry has the number of its line
pub known_number : (s : List Site) (e : NodeEntry) → Known s e → number_of s (index_of s e.reference) ≡ e.reference
known_number s e p = sym (ap (λ (d : NodeEntry). d.reference) p.leaf)

-- what holds of each line's leaf entry
each_line : (P : NodeEntry → Type 0) (s : List Site) → ((k : ℕ) → k < length s → P (leaf_entry (get_or s k no_site))) → Each P (leaf_entries s)
unfolding leaf_entries Each
each_line P [] f = tt
each_line P (p ∷ s) f = (f 0 (omega arith), each_line P s (λ k h. f (suc k) (omega arith)))

module _ (s : List Site) (r : Rising s) where
  pub own_index : (k : ℕ) → k < length s → index_of s (number_of s k) ≡ k
  own_index k h = index_of_lem s r k (number_of s k) h refl

  pub own_known : Each (Known s) (leaf_entries s)
  own_known =
      each_line (Known s) s
      (λ k h. let q = own_index k h in record { held = rw q h; leaf = rw q })
