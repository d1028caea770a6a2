-- What the test of a table's tree decides. Document 01, "The tree".
-- Assumes nothing.
use Rattle.std.specs.Prelude.{List, ◌≡◌, ℕ}
use Rattle.tree_node.specs.declared.NodeEntry.{NodeEntry}
use Rattle.tree_node.specs.Header.{root_in}
use Rattle.tree_node.specs.Tally.{total}
use Rattle.tree_rules.specs.Rooted.{Rooted, leaves_in}
use Rattle.table_sites.specs.Lines.{lines_in}
use Rattle.tree_check.specs.Leaves.{leaf_entries}

-- the tree that the header tells keeps its rules, and its leaf entries are those of the lines of the site array
pub record Tied (b : List ℕ) : Type 0 where
  pub rooted : Rooted (root_in b) b
  -- "Every held site is in one leaf entry", and there is no other leaf entry: whatever is counted, both give the same
  -- total
  pub leaf : (w : NodeEntry → ℕ) → total w (leaves_in b) ≡ total w (leaf_entries (lines_in b))
