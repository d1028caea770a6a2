-- The standing list when the record of one site has changed and the list has not.
-- Assumes nothing.
use Rattle.std.specs.Prelude.{◌≡◌, ℕ, ◌≤◌}
use mathlib.Core.List.{List, Memᴰ}
use Rattle.limits.specs.Limits.{max_sites}
use Rattle.book.specs.Book.{sites_of, strike_line, list_of}
use Rattle.book.specs.Proper.{LegOk}
use Rattle.table_header.specs.Header.{leg_in, length_in}
use Rattle.table_standing.specs.Standing.{standing_in, numbers_of}
use Rattle.table_rules.specs.Table.{book_of, Whole}

-- the stored list is that of the sites other than n
pub record ListsOthers (n : ℕ) (b : List ℕ) : Type 0 where
  pub list : standing_in b ≡ numbers_of (list_of (leg_in b) (strike_line n (sites_of (book_of b))))

-- the table but for its list is sound; the list is that of the sites other than n, unless it names n
pub record Patchable (n : ℕ) (b : List ℕ) : Type 0 where
  pub whole : Whole b
  pub leg : LegOk (leg_in b)
  pub few : length_in b ≤ max_sites
  pub others : ¬ Memᴰ n (standing_in b) → ListsOthers n b
