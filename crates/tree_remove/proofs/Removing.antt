-- A leaf entry that stands in the tree is found, and the whole tree is sound without it.
-- Assumes nothing.
use Rattle.std.specs.Prelude.{Bool, true, false, Option, None}
use mathlib.Core.Path.{◌≡◌, ap, ◌∙◌}
use mathlib.Core.List.Memᴰ
use mathlib.Core.List.{List, Memᴰ}
use Prim.Native.Nat.{ℕ, ◌≤◌, ◌<◌}
use native.Mathlib.Omega.{arith}
use lib.ListN.{length, drop}
use Rattle.limits.specs.Limits.{max_nodes}
use Rattle.words.proofs.Frame.{only_trans, only_wider}
use Rattle.tree_node.specs.declared.NodeEntry.{NodeEntry}
use Rattle.tree_node.specs.declared.Top.{Top}
use Rattle.tree_node.specs.Node.{entries}
use Rattle.tree_node.specs.Free.{free}
use Rattle.tree_node.specs.Header.{top, root_in, Headed}
use Rattle.tree_node.specs.Tally.{total, hit, Within}
use Rattle.tree_node.proofs.Counting.{total_one}
use Rattle.tree_rules.specs.Tree.{leaves_at, nodes_at}
use Rattle.tree_rules.specs.Rooted.{tree_leaves, tree_nodes, Rooted, leaves_in}
use Rattle.tree_rules.specs.Change.{Ready, Became}
use Rattle.tree_rules.proofs.Roots.{root_node, root_ready, rooted_by}
use Rattle.tree_rules.proofs.Outside.{rooted_headed, leaves_headed}
use Rattle.tree_remove.specs.Take.{Prunable, Pruned, Sought}
use Rattle.tree_remove.specs.Removal.{TakenFrom, Removed}
use Rattle.tree_remove.proofs.Members.{never_absent}

-- the tree under the root n, whose entries stand at height g
module _ (g n : ℕ) (e : NodeEntry) (b : List ℕ) (rt : Rooted (top g n) b) where
  pub root_open : Prunable g n b
  unfolding tree_nodes
  root_open = record { ready = root_ready g n b rt; least = (root_node g n b rt).two; fits = omega (arith, rt.all) }

  -- an entry that stands in the tree is found
  pub found : (o : Bool) (b₁ : List ℕ) → Memᴰ e (tree_leaves (entries b) (top g n)) → o ≡ false
      → Sought o g n e (drop 0 (entries b n)) b b₁ → ⊥
  unfolding Sought tree_leaves leaves_at
  found o b₁ m q s =
      let x : Sought false g n e (drop 0 (entries b n)) b b₁ = rw q at s in
      never_absent (leaves_at (entries b) g n) e m x.1

  module _ (o : Bool) (b₁ : List ℕ) (q : o ≡ true) (s : Sought o g n e (drop 0 (entries b n)) b b₁) where
    cut : Pruned g n e b b₁
    unfolding Sought
    cut = let x : Sought true g n e (drop 0 (entries b n)) b b₁ = rw q at s in x

    pub cut_ready : Ready g n b₁
    unfolding tree_nodes Within
    cut_ready =
        record {
          len = cut.only.len ∙ rt.len;
          id = (root_node g n b rt).id;
          sound = cut.sound;
          apart = λ m. omega (arith, cut.ids (hit m), rt.apart m);
          within = λ m z. rt.within m (omega (arith, cut.ids (hit m)));
        }

    pub cut_some : (g ≡ 0 → ⊥) → 1 ≤ length (entries b₁ n)
    cut_some nz = omega (arith, cut.least, (root_node g n b rt).two nz)

    pub cut_room : length (free b₁) < max_nodes
    unfolding tree_nodes nodes_at
    cut_room =
        omega (
          arith,
          rt.all,
          cut.ids (λ _. 1),
          total_one (nodes_at (entries b₁) g n),
          total_one (free b₁),
          total_one (nodes_at (entries b) g n),
          total_one (free b),
        )

    pub cut_done : (r : Option Top) (b₂ : List ℕ) → Became (top g n) r b₁ b₂ → TakenFrom (top g n) e r b b₂
    unfolding tree_nodes tree_leaves
    cut_done r b₂ bc =
        record {
          rooted =
              rooted_by (top g n) r b b₂ rt (bc.only.len ∙ cut.only.len) bc.top (λ w. bc.ids w ∙ cut.ids w);
          leaf = λ w. omega (arith, bc.leaf w, cut.leaf w);
          only = only_trans cut.only bc.only;
        }

-- an empty tree has no entry
pub none_there : (r : Option Top) (e : NodeEntry) (b : List ℕ) → r ≡ None → Memᴰ e (tree_leaves (entries b) r) → ⊥
unfolding tree_leaves
none_there r e b q m = let z : Memᴰ e (tree_leaves (entries b) None) = rw q at m in Memᴰ.not-nil z

-- the tree that the header tells
module _ (e : NodeEntry) (r : Option Top) (b : List ℕ) (q : r ≡ root_in b) where
  pub header_rooted : Rooted (root_in b) b → Rooted r b
  header_rooted rt = rw q rt

  pub header_member : Memᴰ e (leaves_in b) → Memᴰ e (tree_leaves (entries b) r)
  unfolding leaves_in
  header_member m = rw q m

  module _ (s : Option Top) (b₁ : List ℕ) (up : TakenFrom r e s b b₁) where
    pub remove_done : (b₂ : List ℕ) → Headed s b₁ b₂ → Removed e b b₂
    unfolding leaves_in
    remove_done b₂ hd =
        record {
          rooted = rooted_headed s b₁ b₂ hd up.rooted;
          leaf =
              λ w. omega (
                arith,
                ap (total w) (leaves_headed s b₁ b₂ hd),
                up.leaf w,
                ap (λ (x : Option Top). total w (tree_leaves (entries b) x)) q,
              );
          only =
              only_trans
              (only_wider (omega arith) (omega arith) up.only)
              (only_wider (omega arith) (omega arith) hd.only);
        }
