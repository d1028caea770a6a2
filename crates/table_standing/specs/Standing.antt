-- The standing list in the table's bytes. Document 01: "The standing list is always the list of the standing
-- leg, empty while no site is held."
-- Assumes nothing.
use Rattle.std.specs.Prelude.{◌≡◌, List, [], ◌∷◌, ℕ, zero, suc, ◌+◌, ◌*◌, ◌≤◌, ◌<◌, length, get_or}
use Rattle.words.specs.Words.{word_at, Only}
use Rattle.split.specs.SplitList.{Entry}
use Rattle.list_row.specs.Places.{site_at}
use Rattle.list_row.specs.Vertices.{place_at}
use Rattle.table_header.specs.Layout.{length_start, layout_start}
use Rattle.table_header.specs.Header.{length_in}
use Rattle.table_standing.specs.Layout.{list_start, list_end}

-- the n numbers at i, i + 2, ..
unfoldable pub words_from : List ℕ → ℕ → ℕ → List ℕ
words_from b i zero = []
words_from b i (suc n) = word_at b i ∷ words_from b (i + 2) n

-- the site numbers of the standing list
unfoldable pub standing_in : List ℕ → List ℕ
standing_in b = words_from b list_start (length_in b)

-- the site number of entry i
abbrev pub stored_number : List ℕ → ℕ → ℕ
stored_number b i = word_at b (list_start + 2 * i)

-- the site numbers of a list
unfoldable pub numbers_of : List Entry → List ℕ
numbers_of [] = []
numbers_of (e ∷ es) = e.site.number ∷ numbers_of es

-- the first k words of r' are the numbers of the sites whose places r has; no other byte is changed
pub record NumberRow (t r : List ℕ) (k : ℕ) (r' : List ℕ) : Type 0 where
  pub only : Only 0 (2 * k) r r'
  pub number : (i : ℕ) → i < k → word_at r' (2 * i) ≡ (site_at t (place_at r i)).number

-- the list is stored, and nothing else is changed
pub record ListStored (es : List Entry) (b b' : List ℕ) : Type 0 where
  pub len : length b' ≡ length b
  pub list : standing_in b' ≡ numbers_of es
  pub low : (i : ℕ) → i < length_start → get_or b' i 0 ≡ get_or b i 0
  pub between : (i : ℕ) → layout_start ≤ i → i < list_start → get_or b' i 0 ≡ get_or b i 0
  pub high : (i : ℕ) → list_end ≤ i → get_or b' i 0 ≡ get_or b i 0
