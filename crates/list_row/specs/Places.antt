-- Sites in bytes. A site record is three 16-bit numbers: the site's number, its easting and its northing.
-- A place is half the byte offset of a record, so that 16 bits hold it.
-- Assumes nothing.
use Rattle.std.specs.Prelude.{List, ℕ, ◌+◌, ◌*◌, ◌≤◌, ◌<◌, length}
use Rattle.words.specs.Words.{word_at}
use Rattle.grid.specs.declared.Site.{Site}
use Rattle.grid.specs.Position.{OnGrid}

-- the site whose record begins at a byte
unfoldable pub site_at_byte : List ℕ → ℕ → Site
site_at_byte t i = record { number = word_at t i; position = record { east = word_at t (i + 2); north = word_at t (i + 4) } }

-- the site at a place
abbrev pub site_at : List ℕ → ℕ → Site
site_at t p = site_at_byte t (2 * p)

-- a record stands at the place, and its position is on the grid
pub record HasSite (t : List ℕ) (p : ℕ) : Type 0 where
  pub small : p < 65536
  pub inside : 2 * p + 6 ≤ length t
  pub on_grid : OnGrid (site_at t p).position
