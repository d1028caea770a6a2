-- A tour: "Dispatchers drive a tour corner by corner." Document 02, C-13. `Tour` is the code's own struct (src/lib.rt).
-- Assumes nothing.
use Rattle.std.specs.Prelude.{List, [], ◌∷◌, cond, ℕ, eqb, Option, None, Some}
use Rattle.grid.specs.declared.Position.{Position}
use Rattle.grid.specs.declared.Leg.{Leg}
use Rattle.split.specs.SplitList.{Entry}
use Rattle.book.specs.declared.Tour.{Tour}

-- "the leg from the last corner to this one"
abbrev pub leg_to : Tour → Position → Leg
leg_to k p = record { s = k.corner; e = p }

-- of a tour or none
abbrev pub tour_leg : Option Tour → Position → Option Leg
tour_leg None p = None
tour_leg (Some k) p = Some (leg_to k p)

-- the site that is remembered in a tour or none
abbrev pub remembered : Option Tour → Option ℕ
remembered None = None
remembered (Some k) = k.last

-- "The record leaves out the list's first entry if that names the site that ended the previous leg's whole list in this
-- tour"
abbrev pub left_out : Option ℕ → List Entry → List Entry
left_out None es = es
left_out (Some n) [] = []
left_out (Some n) (e ∷ es) = cond (eqb e.site.number n) es (e ∷ es)

-- the number that the last entry names, or else this one
abbrev pub last_number : Option ℕ → List Entry → Option ℕ
last_number o [] = o
last_number o (e ∷ es) = last_number (Some e.site.number) es

-- "Command 42 with a position begins a tour"
abbrev pub begun : Position → Tour
begun p = record { corner = p; last = None }

-- "this position becomes the last corner", and the site that ended this leg's whole list is remembered
abbrev pub cornered : Position → List Entry → Tour
cornered p es = record { corner = p; last = last_number None es }

-- so a tour goes on; without one there is none
abbrev pub goes_on : Option Tour → Position → List Entry → Option Tour
goes_on None p es = None
goes_on (Some k) p es = Some (cornered p es)
