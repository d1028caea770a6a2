-- The rules on sites, asked of any bytes. Document 01, "Grid and sites": "A site has a number from 1 to 65,535 and a
-- position. Two sites may share a position, never a number. A table holds 0 to 512 sites."
-- Assumes nothing.
use Rattle.std.specs.Prelude.{◌≡◌, ℕ, zero, suc, ◌+◌, ◌≤◌, ◌<◌}
use mathlib.Core.List.{List, Memᴰ}
use Rattle.limits.specs.Limits.{max_number, max_sites, grid_width}
use Rattle.words.specs.Words.{word_at}
use Rattle.grid.specs.declared.Site.{Site}
use Rattle.split.specs.SplitList.{SitesOnGrid}
use Rattle.book.specs.Proper.{Rising, NumberOk}
use Rattle.table_header.specs.Header.{count_in}
use Rattle.table_sites.specs.Layout.{record_start, east_offset, north_offset, spare_offset}
use Rattle.table_sites.specs.Lines.{lines_in, SpareZero}

-- "in the table .. a rule on sites (number 0 or held twice, position off the grid, over 512), the docs/ layout"
pub record SitesOk (b : List ℕ) : Type 0 where
  pub few : count_in b ≤ max_sites
  pub numbers : (p : Site) → Memᴰ p (lines_in b) → NumberOk p
  pub rising : Rising (lines_in b)
  pub on_grid : SitesOnGrid (lines_in b)
  pub spare : SpareZero b (count_in b)

-- the record at byte i keeps the rules, where the record before it has the number low;
-- that the number is at most 65,535 needs no test, since a word is read as 16 bits
pub record RecordOk (b : List ℕ) (i low : ℕ) : Type 0 where
  pub higher : low < word_at b i
  pub most : word_at b i ≤ max_number
  pub east : word_at b (i + east_offset) ≤ grid_width
  pub north : word_at b (i + north_offset) ≤ grid_width
  pub spare : word_at b (i + spare_offset) ≡ 0

-- the number of the record before record k, 0 before the first
unfoldable pub number_before : List ℕ → ℕ → ℕ
number_before b zero = 0
number_before b (suc k) = word_at b (record_start k)
