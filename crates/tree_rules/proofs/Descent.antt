-- One level down: entry k of a node that may be changed, and its child node.
-- Assumes nothing.
use mathlib.Core.Path.{◌≡◌, ap, ◌∙◌}
use mathlib.Core.List.{List, ◌∷◌, ◌++◌}
use Prim.Native.Nat.{ℕ, suc, ◌+◌, ◌<◌}
use native.Mathlib.Omega.{arith}
use lib.ListN.{length, get_or, take, drop}
use lib.Seq.{split_at}
use Rattle.tree_node.specs.declared.NodeEntry.{NodeEntry}
use Rattle.tree_node.specs.Node.{entries, no_entry}
use Rattle.tree_node.specs.Tally.{total, hit}
use Rattle.tree_rules.specs.Tree.{joined, nodes, nodes_at, Child, SoundUnder}
use Rattle.tree_rules.specs.Change.{Ready}
use Rattle.tree_rules.proofs.Every.{each_at}
use Rattle.tree_rules.proofs.Totals.{total_joined, nodes_at_lem, nodes_under}

module _ (g n k : ℕ) (b : List ℕ) (f : NodeEntry) (rd : Ready (suc g) n b) (lt : k < length (entries b n)) (qf : f ≡ get_or (entries b n) k no_entry) where
  -- f among the entries
  pub child_parted : entries b n ≡ take k (entries b n) ++ f ∷ drop (suc k) (entries b n)
  child_parted = split_at (entries b n) k no_entry lt ∙ rw qf

  pub child_sound : SoundUnder (entries b) (suc g) f
  child_sound = rw qf (each_at (SoundUnder (entries b) (suc g)) (entries b n) k no_entry rd.sound lt)

  pub child : Child (entries b) (SoundUnder (entries b) g) f
  unfolding SoundUnder
  child = child_sound

  -- the nodes under n: n itself, those under the entries before f, under f, and under those after it
  pub child_total : (w : ℕ → ℕ) → total w (nodes_at (entries b) (suc g) n)
      ≡ w n + (total w (joined (nodes (entries b) (suc g)) (take k (entries b n))) + total w (nodes_at (entries b) g f.reference) + total w (joined (nodes (entries b) (suc g)) (drop (suc k) (entries b n))))
  child_total w =
      let A : List NodeEntry = take k (entries b n) in
      let Z : List NodeEntry = drop (suc k) (entries b n) in
      omega (
        arith,
        nodes_at_lem (entries b) (suc g) n (A ++ f ∷ Z) child_parted w,
        total_joined w (nodes (entries b) (suc g)) A f Z,
        ap (total w) (nodes_under (entries b) g f),
      )

  pub child_ready : Ready g f.reference b
  child_ready =
      record {
        len = rd.len;
        id = child.id;
        sound = child.below;
        apart = λ m. omega (arith, child_total (hit m), rd.apart m);
        within = rd.within;
      }
