-- What the removal of a leaf entry does to the whole tree.
-- Assumes nothing.
use Rattle.std.specs.Prelude.{◌≡◌, List, ℕ, ◌+◌, Option}
use Rattle.limits.specs.Limits.{table_bytes}
use Rattle.words.specs.Words.{Only}
use Rattle.tree_node.specs.declared.NodeEntry.{NodeEntry}
use Rattle.tree_node.specs.declared.Top.{Top}
use Rattle.tree_node.specs.Layout.{tree_start, free_start}
use Rattle.tree_node.specs.Node.{entries}
use Rattle.tree_node.specs.Header.{root_in}
use Rattle.tree_node.specs.Tally.{total}
use Rattle.tree_rules.specs.Rooted.{tree_leaves, Rooted, leaves_in}

-- the tree r has become the tree r', with one leaf entry e fewer
pub record TakenFrom (r : Option Top) (e : NodeEntry) (r' : Option Top) (b b' : List ℕ) : Type 0 where
  pub rooted : Rooted r' b'
  pub leaf : (w : NodeEntry → ℕ) → w e + total w (tree_leaves (entries b') r') ≡ total w (tree_leaves (entries b) r)
  pub only : Only free_start table_bytes b b'

-- the tree of the table has one leaf entry e fewer, and nothing below the tree has changed
pub record Removed (e : NodeEntry) (b b' : List ℕ) : Type 0 where
  pub rooted : Rooted (root_in b') b'
  pub leaf : (w : NodeEntry → ℕ) → w e + total w (leaves_in b') ≡ total w (leaves_in b)
  pub only : Only tree_start table_bytes b b'
