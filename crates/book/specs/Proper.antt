-- The rules on sites that every book keeps. Document 01, "Grid and sites"; the standing leg is on the grid. The tour's
-- rules: document 02, C-13.
-- Assumes nothing.
use Rattle.std.specs.Prelude.{◌≡◌, true, ℕ, ◌≤◌, ◌<◌, length, Option, None, Some}
use mathlib.Core.List.{List, [], ◌∷◌, Memᴰ}
use Rattle.limits.specs.Limits.{max_number, max_sites}
use Rattle.grid.specs.declared.Site.{Site}
use Rattle.grid.specs.declared.Leg.{Leg}
use Rattle.grid.specs.Position.{OnGrid, LegOnGrid}
use Rattle.split.specs.SplitList.{SitesOnGrid}
use Rattle.book.specs.declared.Tour.{Tour}
use Rattle.book.specs.Book.{Book, sites_of, holds}

-- numbers rise strictly, so that none is held twice
abbrev pub Rising : List Site → Type 0
Rising [] = Unit {0}
Rising (p ∷ []) = Unit {0}
Rising (p ∷ q ∷ s) = (p.number < q.number) × Rising (q ∷ s)

-- a number from 1 to 65,535
pub record NumberOk (p : Site) : Type 0 where
  pub least : 1 ≤ p.number
  pub most : p.number ≤ max_number

-- a leg, if there is one, on the grid
abbrev pub LegOk : Option Leg → Type 0
LegOk None = Unit {0}
LegOk (Some l) = LegOnGrid l

-- the remembered site is held
abbrev pub LastHeld : Option ℕ → List Site → Type 0
LastHeld None s = Unit {0}
LastHeld (Some n) s = holds n s ≡ true

-- "a stored corner off the grid or a remembered site that isn't held counts under 65"
pub record TourFits (k : Tour) (s : List Site) : Type 0 where
  pub on_grid : OnGrid k.corner
  pub held : LastHeld k.last s

-- of a tour, if there is one
abbrev pub TourOk : Option Tour → List Site → Type 0
TourOk None s = Unit {0}
TourOk (Some k) s = TourFits k s

-- "A site has a number from 1 to 65,535 and a position. Two sites may share a position, never a number. A table holds
-- 0 to 512 sites."
pub record Proper (b : Book) : Type 0 where
  pub rising : Rising b.lines
  pub numbers : (p : Site) → Memᴰ p b.lines → NumberOk p
  pub on_grid : SitesOnGrid b.lines
  pub few : length b.lines ≤ max_sites
  pub leg_ok : LegOk b.leg
  pub tour_ok : TourOk b.tour (sites_of b)
