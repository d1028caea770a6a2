-- What the steps of an addition and of a removal say of the tree.
-- Assumes nothing.
use Rattle.std.specs.Prelude.{◌≡◌, List, ℕ, ◌+◌, ◌≤◌, ◌<◌, length, Option}
use Rattle.limits.specs.Limits.{max_nodes, table_bytes}
use Rattle.words.specs.Words.{Only}
use Rattle.tree_node.specs.declared.NodeEntry.{NodeEntry}
use Rattle.tree_node.specs.declared.Top.{Top}
use Rattle.tree_node.specs.Layout.{free_start}
use Rattle.tree_node.specs.Node.{entries}
use Rattle.tree_node.specs.Free.{free}
use Rattle.tree_node.specs.Tally.{total, tally, Within}
use Rattle.tree_rules.specs.Tree.{nodes_at, Each, SoundUnder}
use Rattle.tree_rules.specs.Rooted.{tree_leaves, tree_nodes, RootSound}

-- node c, whose entries stand at height h, may be changed: what lies under it is sound, and no node stands twice in
-- it and the free ones
pub record Ready (h c : ℕ) (b : List ℕ) : Type 0 where
  pub len : length b ≡ table_bytes
  pub id : c < max_nodes
  pub sound : Each (SoundUnder (entries b) h) (entries b c)
  pub apart : (m : ℕ) → tally m (nodes_at (entries b) h c) + tally m (free b) ≤ 1
  pub within : Within max_nodes (free b)

-- the tree under r' has the leaf entries that stood under r
pub record Became (r r' : Option Top) (b b' : List ℕ) : Type 0 where
  pub top : RootSound (entries b') r'
  pub leaf : (w : NodeEntry → ℕ) → total w (tree_leaves (entries b') r') ≡ total w (tree_leaves (entries b) r)
  pub ids : (w : ℕ → ℕ) → total w (tree_nodes (entries b') r') + total w (free b') ≡ total w (tree_nodes (entries b) r) + total w (free b)
  pub only : Only free_start table_bytes b b'
