-- What breaks a rule on the tour, and so gets 65. Document 02, C-13: "a stored corner off the grid or a remembered site
-- that isn't held counts under 65"; and the layout of the tour's bytes (docs/LAYOUT.md).
-- Assumes nothing.
use Rattle.std.specs.Prelude.{◌≡◌, ◌≢◌, false, List, ℕ, ◌≤◌, ◌<◌, get_or, None, Some}
use Rattle.words.specs.Words.{word_at}
use Rattle.grid.specs.Position.{OnGrid}
use Rattle.book.specs.declared.Tour.{Tour}
use Rattle.book.specs.Book.{sites_of, holds}
use Rattle.table_header.specs.Layout.{tour_start, corner_start, tour_end, kept_start, kept_end}
use Rattle.table_header.specs.Header.{tour_in}
use Rattle.table_rules.specs.Table.{book_of}

-- one of these is enough
pub data BreaksTour (t : List ℕ) : Type 0 where
  -- "a stored corner off the grid"
  off_grid : (k : Tour) → tour_in t ≡ Some k → ¬ OnGrid k.corner → BreaksTour t
  -- "a remembered site that isn't held"
  not_held : (k : Tour) (n : ℕ) → tour_in t ≡ Some k → k.last ≡ Some n → holds n (sites_of (book_of t)) ≡ false
      → BreaksTour t
  -- a flag that is neither 0 nor 1
  other_flag : 1 < word_at t tour_start → BreaksTour t
  -- a corner or a number without a tour
  not_zero : tour_in t ≡ None → (i : ℕ) → corner_start ≤ i → i < tour_end → get_or t i 0 ≢ 0 → BreaksTour t
  -- what is kept for later is not 0
  not_kept : (i : ℕ) → kept_start ≤ i → i < kept_end → get_or t i 0 ≢ 0 → BreaksTour t
