-- What a change of the sites leaves before the standing list is brought up to date.
-- Assumes nothing.
use Rattle.std.specs.Prelude.{◌≡◌, List, ℕ, ◌+◌, ◌≤◌, None}
use Rattle.limits.specs.Limits.{max_sites, table_bytes}
use Rattle.words.specs.Words.{Only}
use Rattle.grid.specs.declared.Site.{Site}
use Rattle.table_header.specs.Header.{leg_in, tour_in, length_in}
use Rattle.table_sites.specs.Lines.{lines_in}
use Rattle.table_standing.specs.Standing.{standing_in}
use Rattle.tree_node.specs.declared.NodeEntry.{NodeEntry}
use Rattle.tree_node.specs.Layout.{tree_start}
use Rattle.tree_node.specs.Header.{root_in}
use Rattle.tree_node.specs.Tally.{total}
use Rattle.tree_rules.specs.Rooted.{Rooted, leaves_in}
use Rattle.table_rules.specs.Table.{Whole}

-- the table has other lines, its tree has their leaf entries, no tour is under way, and the standing leg and the stored
-- list are as they were
pub record Relined (l : List Site) (b b' : List ℕ) : Type 0 where
  pub whole : Whole b'
  pub lines : lines_in b' ≡ l
  pub leg : leg_in b' ≡ leg_in b
  pub tour : tour_in b' ≡ None
  pub list : length_in b ≤ max_sites → standing_in b' ≡ standing_in b

-- the tree has the leaf entry new in the place of old, and nothing below the tree has changed
pub record Swapped (old new : NodeEntry) (b b' : List ℕ) : Type 0 where
  pub rooted : Rooted (root_in b') b'
  pub leaf : (w : NodeEntry → ℕ) → w old + total w (leaves_in b') ≡ w new + total w (leaves_in b)
  pub only : Only tree_start table_bytes b b'
