-- The tree's sites are the table's, so that a search of the tree lists the table.
-- Assumes nothing.
use mathlib.Core.List.{List}
use Prim.Native.Nat.{ℕ}
use Rattle.grid.specs.declared.Leg.{Leg}
use Rattle.table_sites.specs.Lines.{lines_in}
use Rattle.tree_search.specs.Searching.{ListsTree}
use Rattle.tree_search.proofs.Finding.{found_is}
use Rattle.table_rules.specs.Table.{Whole}
use Rattle.table_rules.specs.Listing.{ListsTable}
use Rattle.table_rules.proofs.Books.{whole_numbered}
use Rattle.table_search.proofs.Points.{tree_sites}

-- THE LIST OF A LEG
pub searched_list : (l : Leg) (b r r' : List ℕ) (k : ℕ) → Whole b → ListsTree l b r r' k → ListsTable l b r' k
searched_list l b r r' k w f = record { held = f.held; list = found_is f (lines_in b) (whole_numbered b w) (tree_sites b w) }
