-- The stored standing list as a row of places again.
-- Assumes nothing.
use Rattle.std.specs.Prelude.{◌≡◌, true, ℕ, ◌≤◌, ◌<◌}
use mathlib.Core.List.{List, Memᴰ}
use Rattle.limits.specs.Limits.{max_sites}
use Rattle.words.specs.Words.{Only}
use Rattle.grid.specs.declared.Leg.{Leg}
use Rattle.split.specs.Skip.{corner_of, Shut}
use Rattle.list_row.specs.Places.{site_at, HasSite}
use Rattle.list_row.specs.Vertices.{point_at, row_bytes, place_at}
use Rattle.book.specs.Book.{holds}
use Rattle.table_standing.specs.Standing.{stored_number}
use Rattle.table_header.specs.Header.{length_in}
use Rattle.table_sites.specs.Lines.{lines_in}

-- p is the place of the record with the number n
pub record PlaceOf (b : List ℕ) (n p : ℕ) : Type 0 where
  pub number : (site_at b p).number ≡ n
  pub line : Memᴰ (site_at b p) (lines_in b)
  pub site : HasSite b p

-- every stored number is that of a line, and there are no more of them than sites
pub record NumbersHeld (b : List ℕ) : Type 0 where
  pub few : length_in b ≤ max_sites
  pub held : (i : ℕ) → i < length_in b → holds (stored_number b i) (lines_in b) ≡ true

-- the first k of the row are the places of the stored numbers
pub record PlacesOf (b r r' : List ℕ) (k : ℕ) : Type 0 where
  pub count : k ≡ length_in b
  pub places : (i : ℕ) → i < k → PlaceOf b (stored_number b i) (place_at r' i)
  pub only : Only 0 row_bytes r r'

-- the site of one entry shuts out all that is at or beyond the corner (a, c)
pub record EntryShuts (l : Leg) (b : List ℕ) (a c : ℕ) : Type 0 where
  pub entry : ℕ
  pub place : ℕ
  pub within : entry < length_in b
  pub names : PlaceOf b (stored_number b entry) place
  pub shut : Shut (corner_of (point_at l b place)) (corner_of (point_at l b place)) a c
