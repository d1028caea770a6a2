-- What stands in the table's header, and the rules on it. Document 01: "The standing leg is that of the last accepted
-- 53, and there is none before it." Document 02, C-13: "The tour is kept in the table between batches".
-- Assumes nothing.
use Rattle.std.specs.Prelude.{◌≡◌, List, cond, ℕ, ◌+◌, ◌≤◌, ◌<◌, get_or, eqb, Option, None, Some, unwrap_or}
use Rattle.words.specs.Words.{word_at, put_word, Only}
use Rattle.grid.specs.declared.Position.{Position}
use Rattle.grid.specs.declared.Leg.{Leg}
use Rattle.book.specs.declared.Tour.{Tour}
use Rattle.table_header.specs.Layout.{count_start, flag_start, leg_start, length_start, layout_start, layout_number}
use Rattle.table_header.specs.Layout.{tour_start, corner_start, last_start, tour_end, kept_start, kept_end}

-- the number of sites
abbrev pub count_in : List ℕ → ℕ
count_in b = word_at b count_start

-- the position whose two words stand at byte i
unfoldable pub position_words : List ℕ → ℕ → Position
position_words b i = record { east = word_at b i; north = word_at b (i + 2) }

-- the leg whose words stand at the leg's bytes
abbrev pub leg_words : List ℕ → Leg
leg_words b = record { s = position_words b leg_start; e = position_words b (leg_start + 4) }

-- the standing leg, or none
unfoldable pub leg_in : List ℕ → Option Leg
leg_in b = cond (eqb (word_at b flag_start) 0) None (Some (leg_words b))

-- the number of entries of the standing list
abbrev pub length_in : List ℕ → ℕ
length_in b = word_at b length_start

-- every byte from lo up to hi is 0
unfoldable pub ZeroFrom : List ℕ → ℕ → ℕ → Type 0
ZeroFrom b lo hi = (i : ℕ) → lo ≤ i → i < hi → get_or b i 0 ≡ 0

-- a flag and what it is for: the flag at byte i is 0 or 1, and where it is 0 the bytes from lo up to hi are 0
pub record FlagOk (b : List ℕ) (i lo hi : ℕ) : Type 0 where
  pub flag : word_at b i ≤ 1
  pub unset : word_at b i ≡ 0 → ZeroFrom b lo hi

-- the layout of the header: its number is this layout's, without a standing leg its words are 0, without a tour its
-- words are 0, and what is kept for later is 0
pub record HeaderOk (b : List ℕ) : Type 0 where
  pub layout : word_at b layout_start ≡ layout_number
  pub leg : FlagOk b flag_start leg_start length_start
  pub tour : FlagOk b tour_start corner_start tour_end
  pub kept : ZeroFrom b kept_start kept_end

-- b with a position's two words stored at byte i
unfoldable pub put_position : List ℕ → ℕ → Position → List ℕ
put_position b i p = put_word (put_word b i p.east) (i + 2) p.north

-- the leg is stored, and nothing else is changed
pub record LegStored (l : Leg) (b b' : List ℕ) : Type 0 where
  pub leg : leg_in b' ≡ Some l
  pub flag : word_at b' flag_start ≡ 1
  pub only : Only flag_start length_start b b'

-- the number of a site, or none where it is 0: site numbers begin at 1
abbrev pub site_number : ℕ → Option ℕ
site_number n = cond (eqb n 0) None (Some n)

-- the tour whose last corner is p and in which n is remembered
abbrev pub tour_at : Position → ℕ → Tour
tour_at p n = record { corner = p; last = site_number n }

-- a tour as the table has it: the number 0 stands for no site
abbrev pub stored_as : Option Tour → Option Tour
stored_as None = None
stored_as (Some k) = Some (tour_at k.corner (unwrap_or k.last 0))

-- the tour that is under way, or none
unfoldable pub tour_in : List ℕ → Option Tour
tour_in b = cond (eqb (word_at b tour_start) 0) None (Some (tour_at (position_words b corner_start) (word_at b last_start)))

-- b with a tour's words stored: flag, corner, number
unfoldable pub put_tour : List ℕ → ℕ → Position → ℕ → List ℕ
put_tour b f p n = put_word (put_position (put_word b tour_start f) corner_start p) last_start n

-- the tour or none is stored as the layout has it, and nothing else is changed
pub record TourStored (o : Option Tour) (b b' : List ℕ) : Type 0 where
  pub tour : tour_in b' ≡ o
  pub layout : FlagOk b' tour_start corner_start tour_end
  pub only : Only tour_start tour_end b b'
