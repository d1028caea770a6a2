-- The table's bytes (docs/LAYOUT.md): the book that they hold, and the rules that they keep. Document 01, "Causes and
-- numbers", the row of 65: "a tree rule, a rule on sites (number 0 or held twice, position off the grid, over 512),
-- the docs/ layout, the standing leg (off the grid) or the standing list's rule"; document 02, C-13, adds the tour's,
-- and C-17 gives the last two a number of their own: "65 is kept for the layout and the rules on tree, sites and tour."
-- Assumes nothing.
use Rattle.std.specs.Prelude.{◌≡◌, List, ℕ, length}
use Rattle.limits.specs.Limits.{table_bytes}
use Rattle.book.specs.Book.{Book, sites_of, standing_list}
use Rattle.book.specs.Proper.{LegOk, TourOk}
use Rattle.table_header.specs.Header.{leg_in, tour_in, HeaderOk}
use Rattle.table_sites.specs.Lines.{lines_in}
use Rattle.table_sites.specs.Rules.{SitesOk}
use Rattle.table_standing.specs.Standing.{standing_in, numbers_of}
use Rattle.tree_check.specs.Tied.{Tied}

-- the book that a table holds: its site array, its standing leg and its tour
abbrev pub book_of : List ℕ → Book
book_of b = record { lines = lines_in b; leg = leg_in b; tour = tour_in b }

-- the first half: length, sites, header, tour and tree. Where it is broken, 65
pub record Whole (b : List ℕ) : Type 0 where
  pub len : length b ≡ table_bytes
  -- "a rule on sites (number 0 or held twice, position off the grid, over 512)"
  pub sites : SitesOk b
  -- "the docs/ layout": the flag of the standing leg and the zeros without one belong to it
  pub header : HeaderOk b
  -- "a stored corner off the grid or a remembered site that isn't held counts under 65"
  pub tour : TourOk (tour_in b) (sites_of (book_of b))
  -- "a tree rule"; every held site is in one leaf entry, and there is no other
  pub tree : Tied b

-- the second half: the standing leg's grid and the standing list, its stored length included. Where the first half is
-- kept and this one broken, 69: "A sound tree with a wrong standing list, or a standing leg off the grid"
pub record StandingOk (b : List ℕ) : Type 0 where
  -- "the standing leg (off the grid)"
  pub leg : LegOk (leg_in b)
  -- "The standing list is always the list of the standing leg, empty while no site is held."
  pub list : standing_in b ≡ numbers_of (standing_list (book_of b))

-- A SOUND TABLE
pub record Sound (b : List ℕ) : Type 0 where
  pub whole : Whole b
  pub standing : StandingOk b
