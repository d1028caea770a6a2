-- A row of places that has the list of a leg over the whole table. Document 01, "The split list".
-- Assumes nothing.
use Rattle.std.specs.Prelude.{◌≡◌, List, ℕ}
use Rattle.grid.specs.declared.Leg.{Leg}
use Rattle.split.specs.SplitOf.{split_of}
use Rattle.list_row.specs.Vertices.{Held, entries_in}
use Rattle.book.specs.Book.{sites_of}
use Rattle.table_rules.specs.Table.{book_of}

-- the first k of the row w are the list of the leg over the table's sites: what a 4C of the leg prints
pub record ListsTable (l : Leg) (b w : List ℕ) (k : ℕ) : Type 0 where
  pub held : Held l b w k
  pub list : entries_in l b w k ≡ split_of l (sites_of (book_of b))
