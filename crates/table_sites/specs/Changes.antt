-- What a change of the site array does, to its lines and to the table's bytes.
-- Assumes nothing.
use Rattle.std.specs.Prelude.{◌≡◌, List, ◌∷◌, ◌++◌, ℕ, ◌+◌, ◌≤◌, ◌<◌, length, get_or, take, drop, set}
use Rattle.limits.specs.Limits.{max_sites}
use Rattle.words.specs.Words.{word_at, Only}
use Rattle.grid.specs.declared.Position.{Position}
use Rattle.grid.specs.declared.Site.{Site}
use Rattle.list_row.specs.Places.{site_at_byte}
use Rattle.table_header.specs.Layout.{after_count}
use Rattle.table_header.specs.Header.{count_in}
use Rattle.table_sites.specs.Layout.{site_start, site_bytes, east_offset, north_offset, spare_offset, site_end}
use Rattle.table_sites.specs.Lines.{lines_in, SpareZero, number_of}

-- the lines with one more before line k
unfoldable pub inserted : ℕ → Site → List Site → List Site
inserted k p s = take k s ++ (p ∷ drop k s)

-- the lines without line k
unfoldable pub deleted : ℕ → List Site → List Site
deleted k s = take k s ++ drop (k + 1) s

-- the lines with line k at another position
unfoldable pub placed : ℕ → Position → List Site → List Site
placed k p s = set s k (record { number = number_of s k; position = p })

-- b' is b with other lines: nothing but the count and the records has changed
pub record ArrayChanged (l : List Site) (b b' : List ℕ) : Type 0 where
  pub len : length b' ≡ length b
  pub lines : lines_in b' ≡ l
  pub few : count_in b' ≤ max_sites
  pub spare : SpareZero b' (count_in b')
  pub header : (i : ℕ) → after_count ≤ i → i < site_start → get_or b' i 0 ≡ get_or b i 0
  pub above : (i : ℕ) → site_end ≤ i → get_or b' i 0 ≡ get_or b i 0

-- the record at byte i has this position, and all other bytes are as before
pub record PutPosition (i : ℕ) (p : Position) (b b' : List ℕ) : Type 0 where
  pub only : Only (i + east_offset) (i + spare_offset) b b'
  pub east : word_at b' (i + east_offset) ≡ p.east
  pub north : word_at b' (i + north_offset) ≡ p.north

-- the record at byte i is this site's, and all other bytes are as before
pub record PutSite (i : ℕ) (p : Site) (b b' : List ℕ) : Type 0 where
  pub only : Only i (i + site_bytes) b b'
  pub site : site_at_byte b' i ≡ p
  pub spare : word_at b' (i + spare_offset) ≡ 0
