-- Tables of the release before C-13 of document 02, 0.9.0, which knew no tours: all bytes of the header behind the
-- layout's number were kept for later, every byte 0. The layout's number did not change with C-13.
-- Assumes nothing.
use Rattle.std.specs.Prelude.{◌≡◌, List, ℕ, ◌+◌, length, None}
use Rattle.limits.specs.Limits.{table_bytes}
use Rattle.words.specs.Words.{word_at}
use Rattle.book.specs.Book.{Book}
use Rattle.table_header.specs.Layout.{flag_start, leg_start, length_start, layout_start, layout_number, kept_end}
use Rattle.table_header.specs.Header.{leg_in, ZeroFrom, FlagOk}
use Rattle.table_sites.specs.Lines.{lines_in}
use Rattle.table_sites.specs.Rules.{SitesOk}
use Rattle.tree_check.specs.Tied.{Tied}
use Rattle.table_rules.specs.Table.{StandingOk}

-- the header's layout then
pub record HeaderBefore (b : List ℕ) : Type 0 where
  pub layout : word_at b layout_start ≡ layout_number
  pub leg : FlagOk b flag_start leg_start length_start
  pub kept : ZeroFrom b (layout_start + 2) kept_end

-- a table that was sound then
pub record SoundBefore (b : List ℕ) : Type 0 where
  pub len : length b ≡ table_bytes
  pub sites : SitesOk b
  pub header : HeaderBefore b
  pub tree : Tied b
  pub standing : StandingOk b

-- the book that it held: sites and standing leg
abbrev pub book_before : List ℕ → Book
book_before b = record { lines = lines_in b; leg = leg_in b; tour = None }
