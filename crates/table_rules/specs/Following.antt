-- A leg that goes on with the table's tour. Document 02, C-13.
-- Assumes nothing.
use Rattle.std.specs.Prelude.{◌≡◌, List, ℕ, None, Some}
use Rattle.grid.specs.declared.Leg.{Leg}
use Rattle.grid.specs.Position.{OnGrid}
use Rattle.split.specs.SplitOf.{split_of}
use Rattle.book.specs.declared.Tour.{Tour}
use Rattle.book.specs.Tour.{last_number}
use Rattle.book.specs.Book.{sites_of}
use Rattle.table_header.specs.Header.{tour_in}
use Rattle.table_rules.specs.Table.{book_of}

-- the leg begins at the tour's last corner and ends on the grid, and site n ends its whole list
pub record Follows (l : Leg) (n : ℕ) (b : List ℕ) : Type 0 where
  pub tour : Tour
  pub runs : tour_in b ≡ Some tour
  pub from : tour.corner ≡ l.s
  pub on_grid : OnGrid l.e
  pub last : last_number None (split_of l (sites_of (book_of b))) ≡ Some n
