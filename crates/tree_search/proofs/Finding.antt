-- The whole tree searched: its root node is read like any other, and the list found is that of all its sites.
-- Assumes nothing.
use mathlib.Core.Path.{◌≡◌, ap, subst, subst⁻¹}
use mathlib.Core.List.{List, [], append-nil}
use Prim.Native.Nat.{ℕ, ◌≤◌, ◌<◌}
use native.Mathlib.Omega.{arith}
use lib.ListN.{length}
use Rattle.limits.specs.Limits.{max_sites}
use Rattle.words.proofs.Frame.{only_refl}
use Rattle.grid.specs.declared.Site.{Site}
use Rattle.grid.specs.declared.Leg.{Leg}
use Rattle.grid.specs.Position.{LegOnGrid}
use Rattle.split.specs.SplitList.{Numbered, SameSites}
use Rattle.split.specs.SplitOf.{split_of}
use Rattle.list_row.specs.Vertices.{row_bytes, Held, Lists, entries_in}
use Rattle.list_row.proofs.Listing.{lists_none, lists_is}
use Rattle.tree_node.specs.declared.NodeEntry.{NodeEntry}
use Rattle.std.specs.Prelude.{Option, None}
use Rattle.tree_node.specs.declared.Top.{Top}
use Rattle.tree_node.specs.Node.{entries}
use Rattle.tree_node.specs.Header.{top, root_in}
use Rattle.tree_rules.specs.Tree.{leaves_at, Each}
use Rattle.tree_rules.specs.Rooted.{tree_leaves, RootNode, Rooted, leaves_in}
use Rattle.tree_rules.proofs.Roots.{root_node}
use Rattle.tree_search.specs.Sites.{LeafPoint, sites}
use Rattle.tree_search.specs.Searching.{under, Readable, Ahead, Searched, ListsTree}

held_none : (l : Leg) (t r : List ℕ) → Held l t r 0
held_none l t r = record { inside = omega arith; few = omega arith; sites = λ i h. absurd (omega arith); convex = tt }

-- the empty tree has no site
module _ (t : List ℕ) (q : root_in t ≡ None) where
  no_leaves : leaves_in t ≡ []
  unfolding leaves_in tree_leaves
  no_leaves = ap (tree_leaves (entries t)) q

  no_sites : sites (leaves_in t) ≡ []
  unfolding sites
  no_sites = ap sites no_leaves

  pub empty_found : (l : Leg) (r : List ℕ) → ListsTree l t r r 0
  empty_found l r =
      record { within = omega arith; held = held_none l t r; lists = rw no_sites (lists_none l t r); only = only_refl }

-- a tree under the node n, whose entries stand at height g
module _ (t : List ℕ) (g n : ℕ) (rt : Rooted (root_in t) t) (q : root_in t ≡ top g n) where
  sound_top : RootNode (entries t) g n
  sound_top = root_node g n t (subst (λ (x : Option Top). Rooted x t) q rt)

  pub top_readable : Readable t g n
  top_readable = record { len = rt.len; id = sound_top.id; sound = sound_top.below }

  pub top_some : 0 < length (entries t n)
  top_some = omega (arith, sound_top.one)

  top_leaves : leaves_in t ≡ under t g (entries t n)
  unfolding leaves_in tree_leaves leaves_at
  top_leaves = ap (tree_leaves (entries t)) q

  module _ (l : Leg) (r : List ℕ) where
    pub top_ahead : Each LeafPoint (leaves_in t) → length (leaves_in t) ≤ max_sites → LegOnGrid l → row_bytes ≤ length r
        → Ahead l t r 0 (under t g (entries t n))
    top_ahead p few leg rows =
        subst
        (Ahead l t r 0)
        top_leaves
        (record { leg = leg; held = held_none l t r; rows = rows; points = p; room = omega arith })

    pub top_found : (r' : List ℕ) (m : ℕ) → Searched l t r 0 (under t g (entries t n)) r' m → ListsTree l t r r' m
    top_found r' m h =
        let s : Searched l t r 0 (leaves_in t) r' m = subst⁻¹ (λ (q : List NodeEntry). Searched l t r 0 q r' m) top_leaves h in
        record {
          within = omega (arith, s.within);
          held = s.held;
          lists = subst (Lists l t r' m) (append-nil (sites (leaves_in t))) (s.lists [] (lists_none l t r));
          only = s.only;
        }

-- a list without a number twice, in another order
numbered_same : (s u : List Site) → SameSites u s → Numbered u → Numbered s
numbered_same s u w n =
    record { small = λ p i. n.small p (w.back p i); one = λ p q i j. n.one p q (w.back p i) (w.back q j) }

-- THE LIST FOUND is the split list of the tree's sites, in whatever order
module _ {l : Leg} {t r r' : List ℕ} {k : ℕ} (f : ListsTree l t r r' k) (u : List Site) (n : Numbered u) (w : SameSites u (sites (leaves_in t))) where
  pub found_is : entries_in l t r' k ≡ split_of l u
  found_is = lists_is l t r' k (sites (leaves_in t)) u (numbered_same (sites (leaves_in t)) u w n) n w f.lists
