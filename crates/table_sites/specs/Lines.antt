-- The site array as the book's lines: "each a site number and a position", in rising order of number.
-- Assumes nothing.
use Rattle.std.specs.Prelude.{◌≡◌, List, [], ◌∷◌, ℕ, zero, suc, ◌+◌, ◌≤◌, ◌<◌, length, get_or, Result, Ok, Err}
use Rattle.limits.specs.Limits.{max_sites, table_bytes}
use Rattle.words.specs.Words.{word_at}
use Rattle.grid.specs.declared.Site.{Site}
use Rattle.list_row.specs.Places.{site_at_byte}
use Rattle.book.specs.Proper.{Rising}
use Rattle.table_header.specs.Header.{count_in}
use Rattle.table_sites.specs.Layout.{spare_offset, record_start}

-- the site of record k
abbrev pub line_at : List ℕ → ℕ → Site
line_at b k = site_at_byte b (record_start k)

-- the n lines from record k on
unfoldable pub lines_from : List ℕ → ℕ → ℕ → List Site
lines_from b k zero = []
lines_from b k (suc n) = line_at b k ∷ lines_from b (suc k) n

-- the lines of the table
unfoldable pub lines_in : List ℕ → List Site
lines_in b = lines_from b 0 (count_in b)

-- the last word of each of the first n records is 0: it is kept for later
unfoldable pub SpareZero : List ℕ → ℕ → Type 0
SpareZero b n = (k : ℕ) → k < n → word_at b (record_start k + spare_offset) ≡ 0

-- the array may be searched and changed: lines in rising order of number, no more than there is room for
pub record Array (b : List ℕ) : Type 0 where
  pub len : length b ≡ table_bytes
  pub few : count_in b ≤ max_sites
  pub rising : Rising (lines_in b)
  pub spare : SpareZero b (count_in b)

-- what stands past the last line: no site has the number 0
abbrev pub no_site : Site
no_site = record { number = 0; position = record { east = 0; north = 0 } }

-- the number of line k
abbrev pub number_of : List Site → ℕ → ℕ
number_of s k = (get_or s k no_site).number

-- n is the number of line k
pub record StandsAt (k n : ℕ) (s : List Site) : Type 0 where
  pub line : k < length s
  pub number : number_of s k ≡ n

-- n is the number of no line: the lower ones stand before line k, the higher ones from it on
pub record StandsNowhere (k n : ℕ) (s : List Site) : Type 0 where
  pub within : k ≤ length s
  pub lower : (i : ℕ) → i < k → number_of s i < n
  pub higher : (i : ℕ) → k ≤ i → i < length s → n < number_of s i

-- where a number stands
abbrev pub FoundAs : Result ℕ ℕ → ℕ → List Site → Type 0
FoundAs (Ok k) n s = StandsAt k n s
FoundAs (Err k) n s = StandsNowhere k n s

-- the number is not below lo, nor from hi on
pub record Narrowed (b : List ℕ) (n lo hi : ℕ) : Type 0 where
  pub order : lo ≤ hi
  pub within : hi ≤ count_in b
  pub lower : (i : ℕ) → i < lo → number_of (lines_in b) i < n
  pub higher : (i : ℕ) → hi ≤ i → i < count_in b → n < number_of (lines_in b) i
