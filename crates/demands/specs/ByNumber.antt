-- Tables of the release before C-11 of document 02, whose standing list followed document 01's own tie rule. C-11: "The
-- standing list and test 65 follow"; since C-17 the number of a wrong standing list is 69.
-- Assumes nothing.
use Rattle.std.specs.Prelude.{◌≡◌, List, [], ◌∷◌, ℕ, Option, None, Some}
use Rattle.grid.specs.declared.Leg.{Leg}
use Rattle.grid.specs.declared.Site.{Site}
use Rattle.split.specs.SplitList.{Entry}
use Rattle.split.specs.ByNumber.{split_by_number}
use Rattle.split.specs.Legs.{at, at_south, site}
use Rattle.book.specs.Book.{Book, sites_of, standing_list}
use Rattle.book.specs.Proper.{LegOk}
use Rattle.table_standing.specs.Standing.{standing_in, numbers_of}
use Rattle.table_rules.specs.Table.{Whole, book_of}
use Rattle.demands.specs.Whole.{Call}
use Rattle.demands.specs.Demands.{Kept, RefusedWith}

-- the list of a leg or none, by document 01's own tie rule
abbrev pub list_by_number : Option Leg → List Site → List Entry
list_by_number None s = []
list_by_number (Some l) s = split_by_number l s

-- the site numbers that were stored then as the standing list of this book
abbrev pub stored_before : Book → List ℕ
stored_before b = numbers_of (list_by_number b.leg (sites_of b))

-- a table that was sound then: every rule but that on the standing list is what it is now
pub record SoundByNumber (t : List ℕ) : Type 0 where
  pub whole : Whole t
  pub leg : LegOk (book_of t).leg
  pub list : standing_in t ≡ stored_before (book_of t)

-- C-11 leaves the stored list of this book
abbrev pub ListStays : Book → Type 0
ListStays b = stored_before b ≡ numbers_of (standing_list b)

-- what becomes of such a table in a call with a work buffer of the right length
pub record EarlierTable (t : List ℕ) (c : Call) (t' : List ℕ) : Type 0 where
  -- whose stored list C-11 changes
  pub refused : ¬ ListStays (book_of t) → RefusedWith 69 t c t'
  -- and every other one: it is taken as it is
  pub taken : ListStays (book_of t) → Kept t c t'

-- document 01's case, with this standing leg: "2 (3,4), 5 (3,-4)"
abbrev pub two_and_five : Leg → Book
two_and_five l = record { lines = site 2 (at 3 4) ∷ site 5 (at_south 3 4) ∷ []; leg = Some l; tour = None }
