-- What is broken in a table. Document 02, C-17: "65 is kept for the layout and the rules on tree, sites and tour. A
-- sound tree with a wrong standing list, or a standing leg off the grid, gets its own number". The flag of the standing
-- leg and the zeros without one belong to the layout; the stored length of the list belongs to the list.
-- Assumes nothing.
use Rattle.std.specs.Prelude.{◌≡◌, ◌≢◌, true, false, List, [], ℕ, ◌+◌, ◌*◌, ◌≤◌, ◌<◌, length, get_or, None, Some}
use Rattle.limits.specs.Limits.{grid_width, work_bytes}
use Rattle.words.specs.Words.{word_at, put_word}
use Rattle.grid.specs.declared.Leg.{Leg}
use Rattle.grid.specs.Position.{LegOnGrid}
use Rattle.split.specs.SplitOf.{split_of}
use Rattle.records.specs.ListRecord.{record_bytes}
use Rattle.book.specs.Book.{sites_of, holds, standing_list}
use Rattle.table_header.specs.Layout.{flag_start, leg_start, length_start, layout_start, layout_number}
use Rattle.table_header.specs.Header.{leg_in, length_in}
use Rattle.table_sites.specs.Rules.{SitesOk}
use Rattle.table_standing.specs.Layout.{list_start}
use Rattle.table_standing.specs.Standing.{standing_in, stored_number, numbers_of}
use Rattle.tree_check.specs.Tied.{Tied}
use Rattle.table_empty.specs.EmptyTable.{zeros}
use Rattle.table_rules.specs.Table.{book_of, StandingOk}
use Rattle.demands.specs.Batch.{returns, lengths_ok}
use Rattle.demands.specs.Whole.{Call, MadeOn, Ran, book_of_run, Asks, HasRoom, WroteReport}
use Rattle.demands.specs.Demands.{RefusedWith, FreshOf, list4_c}
use Rattle.demands.specs.TourRules.{BreaksTour}

-- ---- each way to break a rule

-- what gets 65, whatever the standing leg and list are: one of these is enough
pub data BreaksWhole (t : List ℕ) : Type 0 where
  -- "a rule on sites (number 0 or held twice, position off the grid, over 512)"
  sites : ¬ SitesOk t → BreaksWhole t
  -- another layout's number
  other_layout : word_at t layout_start ≢ layout_number → BreaksWhole t
  -- a flag of the standing leg that is neither 0 nor 1
  other_flag : 1 < word_at t flag_start → BreaksWhole t
  -- a coordinate without a standing leg
  not_zero : leg_in t ≡ None → (i : ℕ) → leg_start ≤ i → i < length_start → get_or t i 0 ≢ 0 → BreaksWhole t
  -- C-13's rules
  tour : BreaksTour t → BreaksWhole t
  -- "a tree rule"
  tree : ¬ Tied t → BreaksWhole t

-- what gets 69 in a table that keeps all of those: one of these is enough
pub data BreaksStanding (t : List ℕ) : Type 0 where
  -- "a standing leg off the grid"
  off_grid : (l : Leg) → leg_in t ≡ Some l → ¬ LegOnGrid l → BreaksStanding t
  -- a list without a standing leg
  legless : leg_in t ≡ None → length_in t ≢ 0 → BreaksStanding t
  -- "empty while no site is held"
  siteless : sites_of (book_of t) ≡ [] → length_in t ≢ 0 → BreaksStanding t
  -- more entries than sites, and so any length past 512
  too_long : length (sites_of (book_of t)) < length_in t → BreaksStanding t
  -- a number of a site that is not held
  not_held : (i : ℕ) → i < length_in t → holds (stored_number t i) (sites_of (book_of t)) ≡ false → BreaksStanding t
  -- any other list than that of the leg
  other_list : standing_in t ≢ numbers_of (standing_list (book_of t)) → BreaksStanding t

-- ---- one word

-- every call on these bytes, with a work buffer of the right length, is refused with this number: "the buffers are left
-- as with 65"
abbrev pub AllRefused : ℕ → List ℕ → Type 0
AllRefused n t =
    (c : Call) (t' : List ℕ) → MadeOn t c t' → lengths_ok t c.work ≡ true
    → (c.result ≡ returns n 0 0) × (t' ≡ t) × (c.work_after ≡ zeros work_bytes) × (c.report_after ≡ c.report)

-- ONE WORD OF THE STANDING LEG OR LIST WRITTEN OVER in a sound table, and what every call says then
pub record OneWord (t : List ℕ) : Type 0 where
  -- the length of the list, by any other
  pub length_word : (n : ℕ) → n ≢ length_in t → AllRefused 69 (put_word t length_start n)
  -- a number of the list, by any other
  pub list_word : (i n : ℕ) → i < length_in t → n ≢ stored_number t i → AllRefused 69 (put_word t (list_start + 2 * i) n)
  -- one of the four coordinates of the leg, by one off the grid
  pub leg_word : leg_in t ≢ None → (k n : ℕ) → k < 4 → grid_width < n → AllRefused 69 (put_word t (leg_start + 2 * k) n)
  -- one of them where there is no leg, by any other
  pub zero_word : leg_in t ≡ None → (k n : ℕ) → k < 4 → n ≢ 0 → AllRefused 65 (put_word t (leg_start + 2 * k) n)
  -- the flag of the leg, by another than 0 and 1
  pub flag_word : (n : ℕ) → 1 < n → AllRefused 65 (put_word t flag_start n)
  -- and so with a wrong length beside it: 65 comes first
  pub both_words : (n k : ℕ) → n ≢ length_in t → 1 < k → AllRefused 65 (put_word (put_word t length_start n) flag_start k)

-- ---- "if the sites can still be read"

-- THE SITES OF THE TABLE t CAN BE READ: it is laid out anew from what it holds. The calls fs are a 41 for each of its
-- lines, in any order and any batches with room for the records, on a table just laid out, and leave the table v
pub record SitesRead (t : List ℕ) : Type 0 where
  -- all are accepted: the new table holds just the sites of the old
  pub mended : (fs : List Call) (v : List ℕ) → Ran fs v → FreshOf (book_of t) fs
      → (book_of_run fs).lines ≡ sites_of (book_of t)
  -- and lists what it should
  pub lists : (fs : List Call) (v : List ℕ) → Ran fs v → FreshOf (book_of t) fs
      → (l : Leg) → LegOnGrid l → sites_of (book_of t) ≢ []
      → (c : Call) (v' : List ℕ) → Asks v (list4_c l) c v' → HasRoom c (record_bytes (split_of l (sites_of (book_of t))))
      → WroteReport c (record_bytes (split_of l (sites_of (book_of t)))) × (v' ≡ v)

-- A FAULT in the standing leg and list of a table that the calls cs left made u of it
pub record FaultTold (cs : List Call) (u : List ℕ) : Type 0 where
  -- the sites and the tour are those of the calls still
  pub sites : sites_of (book_of u) ≡ sites_of (book_of_run cs)
  pub tour : (book_of u).tour ≡ (book_of_run cs).tour
  -- they can be read
  pub read : SitesRead u
  -- 65 never comes, whatever the leg and the list are now; 69 comes where they are wrong
  pub not65 : (c : Call) (u' : List ℕ) → MadeOn u c u' → c.result.reason ≢ 65
  pub refused : (c : Call) (u' : List ℕ) → MadeOn u c u' → lengths_ok u c.work ≡ true → ¬ StandingOk u
      → RefusedWith 69 u c u'
