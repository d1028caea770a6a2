-- The tests of each command's row, in order, and what an accepted command is answered.
-- Document 01, the column "Tests in order" and "The site book": "the first cause met gives 21 and its number".
-- Assumes nothing.
use Rattle.std.specs.Prelude.{List, [], ◌∷◌, Bool, true, false, cond, not, ◌&&◌, ℕ, length, eqb, leb}
use Rattle.std.specs.Prelude.{Option, None, Some}
use Rattle.limits.specs.Limits.{grid_width, max_sites}
use Rattle.grid.specs.declared.Position.{Position}
use Rattle.grid.specs.declared.Leg.{Leg}
use Rattle.readings.specs.declared.Location.{Location}
use Rattle.readings.specs.Location.{finite_in, placed}
use Rattle.split.specs.SplitList.{Entry}
use Rattle.split.specs.SplitOf.{split_of}
use Rattle.book.specs.declared.Command.{Command}
use Rattle.book.specs.declared.Command.TheVariants.{Add, Remove, Move, List as ListOf, Stand, Print}
use Rattle.book.specs.declared.Command.TheVariants.{Begin, Corner}
use Rattle.book.specs.declared.Cause.{Cause}
use Rattle.book.specs.declared.Cause.TheVariants.{NumberZero, OffGrid, Held, NotHeld, Full}
use Rattle.book.specs.declared.Cause.TheVariants.{NoSite, NoLeg, NoTour, NotFinite}
use Rattle.book.specs.declared.Tour.{Tour}
use Rattle.book.specs.Tour.{tour_leg, remembered, left_out}
use Rattle.book.specs.Book.{Book, sites_of, list_of, standing_list, holds, change}
use Rattle.book.specs.Reply.{Reply, done, refused, listed}

-- a test: whether the cause is met
pub record Test : Type 0 where
  pub met : Bool
  pub cause : Cause

-- the cause is met where the answer is yes
abbrev pub test : Bool → Cause → Test
test met cause = record { met = met; cause = cause }

-- "a coordinate outside" the grid: document 02, C-12, "Refusal 2 and its cases move to 12,000 and 12,001"
abbrev pub off_grid : Position → Bool
off_grid p = not (leb p.east grid_width && leb p.north grid_width)

-- "a reading is not finite" (C-15)
abbrev pub not_finite : Location → Bool
not_finite l = not (finite_in l)

-- of a leg's two positions
abbrev pub leg_off_grid : Leg → Bool
leg_off_grid l = not (not (off_grid l.s) && not (off_grid l.e))

-- "no standing leg"
abbrev pub legless : Option Leg → Bool
legless None = true
legless (Some l) = false

-- without a tour
abbrev pub tourless : Option Tour → Bool
tourless None = true
tourless (Some k) = false

-- "no site held"
abbrev pub siteless : Book → Bool
siteless b = eqb (length (sites_of b)) 0

-- the tests that an addition and a move begin with. Document 02, C-15: 11 is "tested after 1 and before 2", and "The
-- grid limit is tested on the step"
abbrev pub placing : ℕ → Location → List Test → List Test
placing n l ts =
    test (eqb n 0) NumberZero ∷ test (not_finite l) NotFinite ∷ test (off_grid (placed l)) OffGrid ∷ ts

-- "Tests in order"; document 02, C-13: "tests in 42: 2; in 43: 8, 2, 6"
abbrev pub tests : Book → Command → List Test
tests b (Add n l) = placing n l (test (holds n b.lines) Held ∷ test (eqb (length b.lines) max_sites) Full ∷ [])
tests b (Remove n) = test (eqb n 0) NumberZero ∷ test (not (holds n b.lines)) NotHeld ∷ []
tests b (Move n l) = placing n l (test (not (holds n b.lines)) NotHeld ∷ [])
tests b (ListOf l) = test (leg_off_grid l) OffGrid ∷ test (siteless b) NoSite ∷ []
tests b (Stand l) = test (leg_off_grid l) OffGrid ∷ []
tests b Print = test (legless b.leg) NoLeg ∷ test (siteless b) NoSite ∷ []
tests b (Begin p) = test (off_grid p) OffGrid ∷ []
tests b (Corner p) = test (tourless b.tour) NoTour ∷ test (off_grid p) OffGrid ∷ test (siteless b) NoSite ∷ []

-- "the first cause met gives 21 and its number"; the reply where none is met
abbrev pub first_cause : List Test → Reply → Reply
first_cause [] y = y
first_cause (t ∷ ts) y = cond t.met (refused t.cause) (first_cause ts y)

-- the leg whose list a command asks for: "4C gives 3D with the split list of its leg over the lines, 50 with that of
-- the standing leg"; 43 "answers the list of the leg from the last corner to this one"
abbrev pub leg_asked : Book → Command → Option Leg
leg_asked b (Add n l) = None
leg_asked b (Remove n) = None
leg_asked b (Move n l) = None
leg_asked b (ListOf l) = Some l
leg_asked b (Stand l) = None
leg_asked b Print = b.leg
leg_asked b (Begin p) = None
leg_asked b (Corner p) = tour_leg b.tour p

-- what of that list the record has: all of it, but "The record leaves out the list's first entry if that names the site
-- that ended the previous leg's whole list in this tour" (43)
abbrev pub shown_by : Book → Command → List Entry → List Entry
shown_by b (Add n l) es = es
shown_by b (Remove n) es = es
shown_by b (Move n l) es = es
shown_by b (ListOf l) es = es
shown_by b (Stand l) es = es
shown_by b Print es = es
shown_by b (Begin p) es = es
shown_by b (Corner p) es = left_out (remembered b.tour) es

-- what an accepted command is answered: "2B each", or the list that it asks for. "Command 42 .. gets 2B"
abbrev pub accepted : Book → Command → Reply
accepted b (Add n l) = done
accepted b (Remove n) = done
accepted b (Move n l) = done
accepted b (ListOf l) = listed (split_of l (sites_of b))
accepted b (Stand l) = done
accepted b Print = listed (standing_list b)
accepted b (Begin p) = done
accepted b (Corner p) = listed (shown_by b (Corner p) (list_of (leg_asked b (Corner p)) (sites_of b)))

-- the book's answer
unfoldable pub answer : Book → Command → Reply
answer b c = first_cause (tests b c) (accepted b c)

-- a command that changes nothing: "4C gives 3D", "50 .."
abbrev pub reads : Command → Bool
reads (Add n l) = false
reads (Remove n) = false
reads (Move n l) = false
reads (ListOf l) = true
reads (Stand l) = false
reads Print = true
reads (Begin p) = false
reads (Corner p) = false

-- "With 21, 66, 67 or 68 the command changes neither lines nor leg." Document 02, C-13: "A refused command leaves corner
-- and tour."
abbrev pub after : Book → Command → Reply → Book
after b c done = change c b
after b c (refused x) = b
after b c (listed es) = change c b
