-- What an addition does: the contract of the crate's one call.
-- Assumes nothing.
use Rattle.std.specs.Prelude.{◌≡◌, List, ℕ, ◌+◌}
use Rattle.limits.specs.Limits.{table_bytes}
use Rattle.words.specs.Words.{Only}
use Rattle.tree_node.specs.declared.NodeEntry.{NodeEntry}
use Rattle.tree_node.specs.Layout.{tree_start}
use Rattle.tree_node.specs.Header.{root_in}
use Rattle.tree_node.specs.Tally.{total}
use Rattle.tree_rules.specs.Rooted.{Rooted, leaves_in}

-- the leaf entry e is added to the tree
pub record Added (e : NodeEntry) (b b' : List ℕ) : Type 0 where
  -- the tree keeps its rules
  pub rooted : Rooted (root_in b') b'
  -- its leaf entries are those there were and e, whatever is counted of them
  pub leaf : (w : NodeEntry → ℕ) → total w (leaves_in b') ≡ w e + total w (leaves_in b)
  -- the bytes below the tree, and their number, are as they were
  pub only : Only tree_start table_bytes b b'
