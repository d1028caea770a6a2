-- The split list of a leg. Document 01, "The split list", in its order.
-- What is said at a fraction t is meant with the denominators multiplied out, so that every number is whole.
-- Assumes nothing.
use Rattle.std.specs.Prelude.{◌≡◌, ◌≢◌, ℕ, suc, ◌+◌, ◌*◌, ◌-◌, ◌≤◌, ◌<◌, Option, None, Some}
use mathlib.Core.List.{List, [], ◌∷◌, Memᴰ}
use Rattle.std.proofs.Math.Decide.{dec_le}
use Rattle.limits.specs.Limits.{max_number}
use Rattle.grid.specs.declared.Site.{Site}
use Rattle.grid.specs.declared.Leg.{Leg}
use Rattle.grid.specs.declared.Fraction.{Fraction}
use Rattle.grid.specs.Position.{squared_difference, OnGrid}
use Rattle.grid.specs.Side.{on_the_right?}
use Rattle.grid.specs.Fraction.{IsFraction, Below, NotAbove, Reduced, zero_fraction, one_fraction}

-- "Fraction t .. stands for S + t(E - S)": one coordinate of that point, times the denominator of t
unfoldable pub along : Fraction → ℕ → ℕ → ℕ
along t s e = (t.den - t.num) * s + t.num * e

-- the squared distance of a site from the leg's point at t, times the square of t's denominator
unfoldable pub distance_at : Leg → Fraction → Site → ℕ
distance_at l t p =
    squared_difference (t.den * p.position.east) (along t l.s.east l.e.east)
    + squared_difference (t.den * p.position.north) (along t l.s.north l.e.north)

-- what a number counts for, by whether its site is on the right: as it is, or above all of those
abbrev pub rank_by : {A : Type 0} → Dec A → ℕ → ℕ
rank_by (yes h) n = n
rank_by (no h) n = suc max_number + n

-- the tie rule, document 02, C-11: "Of sites that tie along the whole leg, one on the right now comes before others;
-- then the lower number." The least rank comes first, which is just that (`rank_is`, proofs/Ranks.antt)
unfoldable pub rank : Leg → Site → ℕ
rank l p = rank_by (on_the_right? l p.position) p.number

-- at t, p is the first of the nearest sites: on the right of the leg first, then the lower number
pub record Leads (l : Leg) (sites : List Site) (t : Fraction) (p : Site) : Type 0 where
  pub held : Memᴰ p sites
  pub nearest : (q : Site) → Memᴰ q sites → distance_at l t p ≤ distance_at l t q
  pub least : (q : Site) → Memᴰ q sites → distance_at l t p ≡ distance_at l t q → rank l p ≤ rank l q

-- "The list is a row of entries, each a site and a start."
pub record Entry : Type 0 where
  pub site : Site
  pub start : Fraction

-- "An entry covers from its start to the next start, the last one to 1": where an entry ends that is followed by these
abbrev pub end_of : List Entry → Fraction
end_of [] = one_fraction
end_of (f ∷ fs) = f.start

-- "Neighbouring entries name different sites."
abbrev pub Changes : Entry → List Entry → Type 0
Changes e [] = Unit {0}
Changes e (f ∷ fs) = e.site.number ≢ f.site.number

-- the rules of an entry that is followed by rest: "Starts rise strictly", "each start is less than 1", "without
-- common factor"; "At every t strictly inside an entry's stretch its site is" the first of the nearest sites, by the
-- tie rule of C-11 where document 01 had the "least-numbered"
pub record Stretch (l : Leg) (sites : List Site) (e : Entry) (rest : List Entry) : Type 0 where
  pub below1 : e.start.num < e.start.den
  pub reduced : Reduced e.start
  pub rises : Below e.start (end_of rest)
  pub leads : (t : Fraction) → IsFraction t → Below e.start t → Below t (end_of rest) → Leads l sites t e.site
  pub changes : Changes e rest

-- the rules of every entry
abbrev pub Stretches : Leg → List Site → List Entry → Type 0
Stretches l sites [] = Unit {0}
Stretches l sites (e ∷ es) = Stretch l sites e es × Stretches l sites es

-- "the first is 0"; a list without entries is that of no sites
abbrev pub Opens : List Site → List Entry → Type 0
Opens sites [] = sites ≡ []
Opens sites (e ∷ es) = e.start ≡ zero_fraction

-- THE SPLIT LIST of a leg over sites
pub record IsSplitList (l : Leg) (sites : List Site) (list : List Entry) : Type 0 where
  pub opens : Opens sites list
  pub rules : Stretches l sites list

-- "A site has a number .. to 65,535"; "Two sites may share a position, never a number."
pub record Numbered (sites : List Site) : Type 0 where
  pub small : (p : Site) → Memᴰ p sites → p.number ≤ max_number
  pub one : (p q : Site) → Memᴰ p sites → Memᴰ q sites → p.number ≡ q.number → p ≡ q

-- every site's position is on the grid
abbrev pub SitesOnGrid : List Site → Type 0
SitesOnGrid sites = (p : Site) → Memᴰ p sites → OnGrid p.position

-- the same sites, in whatever order
pub record SameSites (s t : List Site) : Type 0 where
  pub to : (p : Site) → Memᴰ p s → Memᴰ p t
  pub back : (p : Site) → Memᴰ p t → Memᴰ p s

-- "An entry covers from its start to the next start, the last one to 1, ends included": t lies there
pub record CoversAt (e : Entry) (rest : List Entry) (t : Fraction) : Type 0 where
  pub from_start : NotAbove e.start t
  pub to_end : NotAbove t (end_of rest)

-- p is nearest at t, whatever ties
abbrev pub NearestAt : Leg → List Site → Fraction → Site → Type 0
NearestAt l sites t p = (q : Site) → Memᴰ q sites → distance_at l t p ≤ distance_at l t q

-- the first where the test holds, else the second
abbrev pub or_else : {A : Type 0} → Dec A → Site → Site → Site
or_else (yes h) p q = p
or_else (no h) p q = q

-- the site that a list names at t which begins with the entry e
unfoldable pub name_from : Fraction → Entry → List Entry → Site
name_from t e [] = e.site
name_from t e (f ∷ fs) = or_else (dec_le (f.start.num * t.den) (t.num * f.start.den)) (name_from t f fs) e.site

-- "At t a list names the site of its last entry whose start is not above t": none where it has no entry
abbrev pub name_at : Fraction → List Entry → Option Site
name_at t [] = None
name_at t (e ∷ es) = Some (name_from t e es)
