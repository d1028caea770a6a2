-- The site book: "It has lines, each a site number and a position, and a standing leg or none." Document 01, "The
-- site book"; and a tour or none: document 02, C-13. Lines are kept in rising order of number, so that two books with
-- the same lines are equal.
-- Assumes nothing.
use Rattle.std.specs.Prelude.{List, [], ◌∷◌, Bool, false, cond, ◌||◌, ℕ, eqb, ltb, Option, None, Some}
use Rattle.grid.specs.declared.Position.{Position}
use Rattle.grid.specs.declared.Site.{Site}
use Rattle.grid.specs.declared.Leg.{Leg}
use Rattle.readings.specs.Location.{placed}
use Rattle.split.specs.SplitList.{Entry}
use Rattle.split.specs.SplitOf.{split_of}
use Rattle.book.specs.declared.Command.{Command}
use Rattle.book.specs.declared.Tour.{Tour}
use Rattle.book.specs.Tour.{tour_leg, begun, goes_on}
use Rattle.book.specs.declared.Command.TheVariants.{Add, Remove, Move, List as ListOf, Stand, Print}
use Rattle.book.specs.declared.Command.TheVariants.{Begin, Corner}

-- lines, a standing leg or none, and a tour or none
pub record Book : Type 0 where
  pub lines : List Site
  pub leg : Option Leg
  pub tour : Option Tour

-- "At laying out it has no line and no leg."
abbrev pub empty_book : Book
empty_book = record { lines = []; leg = None; tour = None }

-- the book with other lines: "An accepted 41, 44 or 4D ends the tour.", and so do 61 and 6D
abbrev pub with_lines : List Site → Book → Book
with_lines s b = record { lines = s; leg = b.leg; tour = None }

-- the book with this standing leg
abbrev pub with_leg : Leg → Book → Book
with_leg l b = record { lines = b.lines; leg = Some l; tour = b.tour }

-- the book with this tour or none
abbrev pub with_tour : Option Tour → Book → Book
with_tour o b = record { lines = b.lines; leg = b.leg; tour = o }

-- the sites that lists are made of: the lines
abbrev pub sites_of : Book → List Site
sites_of b = b.lines

-- a line is written, before the first of a higher number
unfoldable pub write_line : Site → List Site → List Site
write_line p [] = p ∷ []
write_line p (q ∷ s) = cond (ltb p.number q.number) (p ∷ q ∷ s) (q ∷ write_line p s)

-- a line is struck
unfoldable pub strike_line : ℕ → List Site → List Site
strike_line n [] = []
strike_line n (q ∷ s) = cond (eqb q.number n) (strike_line n s) (q ∷ strike_line n s)

-- a line gets a new position
unfoldable pub move_line : ℕ → Position → List Site → List Site
move_line n p [] = []
move_line n p (q ∷ s) = cond (eqb q.number n) (record { number = n; position = p } ∷ move_line n p s) (q ∷ move_line n p s)

-- a line has this number
unfoldable pub holds : ℕ → List Site → Bool
holds n [] = false
holds n (q ∷ s) = eqb q.number n || holds n s

-- the list of a leg or none: "50 with that of the standing leg", none where there is no leg
abbrev pub list_of : Option Leg → List Site → List Entry
list_of None s = []
list_of (Some l) s = split_of l s

-- "41 writes a line, 44 strikes it, 4D gives it the new position, 53 sets the leg"; document 02, C-13: 42 "begins a
-- tour", and with 43 it goes on; C-15: "61 and 6D do what 41 and 4D do", with the step that each reading goes to
unfoldable pub change : Command → Book → Book
change (Add n l) b = with_lines (write_line (record { number = n; position = placed l }) b.lines) b
change (Remove n) b = with_lines (strike_line n b.lines) b
change (Move n l) b = with_lines (move_line n (placed l) b.lines) b
change (ListOf l) b = b
change (Stand l) b = with_leg l b
change Print b = b
change (Begin p) b = with_tour (Some (begun p)) b
change (Corner p) b = with_tour (goes_on b.tour p (list_of (tour_leg b.tour p) (sites_of b))) b

-- "The standing list is always the list of the standing leg, empty while no site is held."
abbrev pub standing_list : Book → List Entry
standing_list b = list_of b.leg (sites_of b)
