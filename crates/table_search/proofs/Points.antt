-- What a search may count on in a whole table: the tree's leaf entries are points on the grid, as many as lines, and their sites are the lines.
-- Assumes nothing.
use mathlib.Core.Path.{◌≡◌, refl, sym, ap, subst}
use mathlib.Core.List.{List, [], ◌∷◌, Memᴰ}
use Prim.Native.Nat.{ℕ, ◌≤◌}
use native.Mathlib.Omega.{arith}
use lib.ListN.{length}
use Rattle.limits.specs.Limits.{max_sites}
use Rattle.grid.specs.declared.Site.{Site}
use Rattle.split.specs.SplitList.{SameSites, SitesOnGrid}
use Rattle.table_sites.specs.Lines.{lines_in}
use Rattle.table_sites.proofs.Reading.{lines_length}
use Rattle.tree_node.specs.declared.NodeEntry.{NodeEntry}
use Rattle.tree_rules.specs.Tree.{Each}
use Rattle.tree_rules.specs.Rooted.{leaves_in}
use Rattle.tree_rules.proofs.Members.{same_member, same_each}
use Rattle.tree_search.specs.Sites.{site_of, LeafPoint, sites}
use Rattle.tree_check.specs.Leaves.{leaf_entry, leaf_entries}
use Rattle.tree_check.proofs.Leaves.{tied_count}
use Rattle.table_rules.specs.Table.{Whole}

line_points : (s : List Site) → SitesOnGrid s → Each LeafPoint (leaf_entries s)
unfolding Each leaf_entries
line_points [] g = tt
line_points (p ∷ s) g =
    (record { east = refl; north = refl; on_grid = g p (Memᴰ.head refl) }, line_points s (λ q m. g q (Memᴰ.tail m)))

entry_of : (s : List Site) (p : Site) → Memᴰ p s → Memᴰ (leaf_entry p) (leaf_entries s)
unfolding leaf_entries
entry_of [] p x' = elim x' [ ]
entry_of (q ∷ s) p (Memᴰ.head e) = Memᴰ.head (ap leaf_entry e)
entry_of (q ∷ s) p (Memᴰ.tail m) = Memᴰ.tail (entry_of s p m)

module _ (b : List ℕ) (w : Whole b) where
  -- POINTS ON THE GRID
  pub leaf_points : Each LeafPoint (leaves_in b)
  leaf_points = same_each (leaves_in b) (leaf_entries (lines_in b)) w.tree.leaf LeafPoint (line_points (lines_in b) w.sites.on_grid)

  pub leaf_few : length (leaves_in b) ≤ max_sites
  leaf_few = omega (arith, tied_count b w.tree, lines_length b, w.sites.few)

  pub line_leaf : (p : Site) → Memᴰ p (lines_in b) → Memᴰ (leaf_entry p) (leaves_in b)
  line_leaf p m = same_member (leaf_entries (lines_in b)) (leaves_in b) (λ v. sym (w.tree.leaf v)) (leaf_entry p) (entry_of (lines_in b) p m)

site_of_lem : (l : List NodeEntry) (e : NodeEntry) → Memᴰ e l → Memᴰ (site_of e) (sites l)
unfolding sites
site_of_lem [] e x' = elim x' [ ]
site_of_lem (d ∷ l) e (Memᴰ.head q) = Memᴰ.head (ap site_of q)
site_of_lem (d ∷ l) e (Memᴰ.tail m) = Memᴰ.tail (site_of_lem l e m)

-- a site of leaf entries comes from one
record From (l : List NodeEntry) (p : Site) : Type 0 where
  entry : NodeEntry
  member : Memᴰ entry l
  is : site_of entry ≡ p

from : (l : List NodeEntry) (p : Site) → Memᴰ p (sites l) → From l p
unfolding sites
from [] p x' = elim x' [ ]
from (d ∷ l) p (Memᴰ.head q) = record { entry = d; member = Memᴰ.head refl; is = sym q }
from (d ∷ l) p (Memᴰ.tail m) = let f = from l p m in record { entry = f.entry; member = Memᴰ.tail f.member; is = f.is }

line_of : (s : List Site) (e : NodeEntry) → Memᴰ e (leaf_entries s) → Memᴰ (site_of e) s
unfolding leaf_entries
line_of [] e x' = elim x' [ ]
line_of (q ∷ s) e (Memᴰ.head z) = Memᴰ.head (ap site_of z)
line_of (q ∷ s) e (Memᴰ.tail m) = Memᴰ.tail (line_of s e m)

-- THE SITES OF THE TREE are the lines
pub tree_sites : (b : List ℕ) → Whole b → SameSites (lines_in b) (sites (leaves_in b))
tree_sites b w =
    record {
      to = λ p m. site_of_lem (leaves_in b) (leaf_entry p) (line_leaf b w p m);
      back = λ p m.
          let f = from (leaves_in b) p m in
          subst (λ (x : Site). Memᴰ x (lines_in b)) f.is
          (line_of (lines_in b) f.entry (same_member (leaves_in b) (leaf_entries (lines_in b)) w.tree.leaf f.entry f.member));
    }
