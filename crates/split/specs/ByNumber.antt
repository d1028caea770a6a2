-- The list by document 01's own tie rule, "the least-numbered of the nearest sites", which stood before C-11 of
-- document 02: to say what that request changed and what it left. All but what decides a tie is as in SplitOf.antt.
-- Assumes nothing.
use Rattle.std.specs.Prelude.{◌≡◌, ◌≤◌}
use mathlib.Core.List.{List, [], ◌∷◌, map, Memᴰ}
use Rattle.grid.specs.declared.Site.{Site}
use Rattle.grid.specs.declared.Leg.{Leg}
use Rattle.split.specs.SplitList.{Entry}
use Rattle.split.specs.Ties.{TieAlong, FirstBy}
use Rattle.split.specs.Hull.{Point, point_with}
use Rattle.split.specs.SplitOf.{build, entries_of}

-- a site as a point, where the number decides a tie
abbrev pub number_point : Leg → Site → Point
number_point l p = point_with l p.number p

-- sites as such points
abbrev pub number_points : Leg → List Site → List Point
number_points l s = map (number_point l) s

-- THE SPLIT LIST BEFORE C-11, computed
unfoldable pub split_by_number : Leg → List Site → List Entry
split_by_number l s = entries_of (build (number_points l s))

-- "the least-numbered": of the sites that tie with it along the whole leg, each entry's site has the lowest number
abbrev pub LowestOfTies : Leg → List Site → List Entry → Type 0
LowestOfTies l s es = FirstBy (λ p q. p.number ≤ q.number) l s es

-- two entries that differ by the tie rule alone: they start together, and name sites that tie along the whole leg
pub record SameStretch (l : Leg) (s : List Site) (e f : Entry) : Type 0 where
  pub start : e.start ≡ f.start
  pub held : Memᴰ e.site s × Memᴰ f.site s
  pub tie : TieAlong l e.site f.site

-- entry by entry
abbrev pub SameStretches : Leg → List Site → List Entry → List Entry → Type 0
SameStretches l s [] [] = Unit {0}
SameStretches l s [] (f ∷ fs) = ⊥
SameStretches l s (e ∷ es) [] = ⊥
SameStretches l s (e ∷ es) (f ∷ fs) = SameStretch l s e f × SameStretches l s es fs

-- no two of the sites tie along the whole leg
abbrev pub NoTie : Leg → List Site → Type 0
NoTie l s = (p q : Site) → Memᴰ p s → Memᴰ q s → TieAlong l p q → p ≡ q
