-- A change outside the nodes and the free stack leaves the tree: of the header, or of what stands below the tree.
-- Assumes nothing.
use mathlib.Core.Path.{◌≡◌, refl, ap, ap₂}
use mathlib.Core.List.{List, ◌∷◌}
use Prim.Native.Nat.{ℕ, ◌+◌}
use native.Mathlib.Omega.{arith}
use lib.ListN.{length}
use Rattle.words.specs.Words.{Only}
use Rattle.words.proofs.Frame.{only_wider}
use Rattle.std.specs.Prelude.{Option, None, Some}
use Rattle.tree_node.specs.declared.Top.{Top}
use Rattle.tree_node.specs.Layout.{tree_start, free_start, pool_start}
use Rattle.tree_node.specs.Node.{entries}
use Rattle.tree_node.specs.Free.{free}
use Rattle.tree_node.specs.Header.{root_in, Headed}
use Rattle.tree_node.specs.Tally.{total}
use Rattle.tree_node.proofs.Storing.{nodes_kept}
use Rattle.tree_node.proofs.FreeStack.{free_headed}
use Rattle.tree_node.proofs.Heading.{root_above}
use Rattle.tree_rules.specs.Tree.{Store, leaves_at, nodes_at}
use Rattle.tree_rules.specs.Rooted.{tree_leaves, tree_nodes, RootNode, RootSound, Rooted, leaves_in}
use Rattle.tree_rules.proofs.Kept.{kept_leaves, kept_nodes, kept_sound}
use Rattle.tree_rules.proofs.Roots.{rooted_by}

-- two stores that give every node the same entries
module _ (E E' : Store) (q : (m : ℕ) → E' m ≡ E m) where
  pub same_leaves : (r : Option Top) → tree_leaves E' r ≡ tree_leaves E r
  unfolding tree_leaves leaves_at
  same_leaves None = refl
  same_leaves (Some x) = rw (q x.node) (kept_leaves E E' x.height (E x.node) (λ m z. q m))

  pub same_nodes : (r : Option Top) → tree_nodes E' r ≡ tree_nodes E r
  unfolding tree_nodes nodes_at
  same_nodes None = refl
  same_nodes (Some x) = rw (q x.node) (ap (λ (l : List ℕ). x.node ∷ l) (kept_nodes E E' x.height (E x.node) (λ m z. q m)))

  same_node : (g n : ℕ) → RootNode E g n → RootNode E' g n
  same_node g n t =
      record {
        id = t.id;
        two = λ z. rw (q n) (t.two z);
        one = rw (q n) t.one;
        most = rw (q n) t.most;
        below = rw (q n) (kept_sound E E' g (E n) (λ m z. q m) t.below);
      }

  pub same_sound : (r : Option Top) → RootSound E r → RootSound E' r
  unfolding RootSound
  same_sound None t = tt
  same_sound (Some x) t = same_node x.height x.node t

pub rooted_same : (r : Option Top) (b b' : List ℕ) → length b' ≡ length b → ((m : ℕ) → entries b' m ≡ entries b m) → free b' ≡ free b → Rooted r b → Rooted r b'
rooted_same r b b' len q f rt =
    rooted_by r r b b' rt len (same_sound (entries b) (entries b') q r rt.top)
    (λ w. ap₂ (λ (x y : List ℕ). total w x + total w y) (same_nodes (entries b) (entries b') q r) f)

-- the root is stored in the header
module _ (r : Option Top) (b b' : List ℕ) (h : Headed r b b') where
  headed_nodes : (m : ℕ) → entries b' m ≡ entries b m
  headed_nodes = nodes_kept (only_wider {lo' = tree_start} {hi' = pool_start} (omega arith) (omega arith) h.only)

  pub rooted_headed : Rooted r b → Rooted (root_in b') b'
  rooted_headed rt = rw h.root (rooted_same r b b' h.only.len headed_nodes (free_headed h.only) rt)

  pub leaves_headed : leaves_in b' ≡ tree_leaves (entries b) r
  unfolding leaves_in
  leaves_headed = rw h.root (same_leaves (entries b) (entries b') headed_nodes r)

-- something below the tree is changed
module _ {lo : ℕ} {b b' : List ℕ} (p : Only lo tree_start b b') where
  below_nodes : (m : ℕ) → entries b' m ≡ entries b m
  below_nodes = nodes_kept (only_wider {lo' = lo} {hi' = pool_start} (omega arith) (omega arith) p)

  pub rooted_below : Rooted (root_in b) b → Rooted (root_in b') b'
  rooted_below rt =
      rw (root_above p)
      (rooted_same (root_in b) b b' p.len below_nodes (free_headed (only_wider {lo' = lo} {hi' = free_start} (omega arith) (omega arith) p)) rt)

  pub leaves_below : leaves_in b' ≡ leaves_in b
  unfolding leaves_in
  leaves_below = rw (root_above p) (same_leaves (entries b) (entries b') below_nodes (root_in b))
