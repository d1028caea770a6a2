-- The tie rule in document 02's words. C-11: "Of sites that tie along the whole leg, one on the right now comes before
-- others; then the lower number." `rank` (SplitList.antt) says the same by one number, and proofs/Ranks.antt shows it.
-- Assumes nothing.
use Rattle.std.specs.Prelude.{◌≡◌, ◌≤◌}
use mathlib.Core.List.{List, Memᴰ}
use Rattle.grid.specs.declared.Fraction.{Fraction}
use Rattle.grid.specs.declared.Leg.{Leg}
use Rattle.grid.specs.declared.Site.{Site}
use Rattle.grid.specs.Fraction.{IsFraction}
use Rattle.grid.specs.Side.{OnTheRight}
use Rattle.split.specs.SplitList.{distance_at, Entry}

-- "sites that tie along the whole leg": as near as each other at every fraction
abbrev pub TieAlong : Leg → Site → Site → Type 0
TieAlong l p q = (t : Fraction) → IsFraction t → distance_at l t p ≡ distance_at l t q

-- p comes before q, or has the same number and side
pub record ComesFirst (l : Leg) (p q : Site) : Type 0 where
  -- "one on the right now comes before others"
  pub side : OnTheRight l q.position → OnTheRight l p.position
  -- "then the lower number": of two on the right, and of two that are not
  pub number : (OnTheRight l p.position → OnTheRight l q.position) → p.number ≤ q.number

-- of the sites that tie with it along the whole leg, each entry's site is the first by R
abbrev pub FirstBy : (Site → Site → Type 0) → Leg → List Site → List Entry → Type 0
FirstBy R l s es =
    (e : Entry) → Memᴰ e es → (q : Site) → Memᴰ q s → TieAlong l e.site q → R e.site q

-- and by document 02's rule
abbrev pub FirstOfTies : Leg → List Site → List Entry → Type 0
FirstOfTies l s es = FirstBy (ComesFirst l) l s es
