-- Sites as points (A, C): their squared distances from the leg's two ends. The split list is the lower left convex
-- hull of these points. At t = n/d, with m = d - n, one site is nearer than another exactly when its m·A + n·C is
-- less (proofs/Stewart.antt). Document 01 has no hull: this is the way that the code takes, and proofs/Exists.antt
-- leads from it to the split list.
-- Assumes nothing.
use mathlib.Core.List.{List, [], ◌∷◌, Memᴰ}
use Rattle.std.specs.Prelude.{ℕ, ◌+◌, ◌*◌, ◌-◌, ◌≤◌, ◌<◌}
use Rattle.grid.specs.declared.Site.{Site}
use Rattle.grid.specs.declared.Leg.{Leg}
use Rattle.grid.specs.declared.Fraction.{Fraction}
use Rattle.grid.specs.Position.{distance}
use Rattle.split.specs.SplitList.{rank}

-- the squared distances from S and from E, what decides a tie, and the site itself
pub record Point : Type 0 where
  pub a : ℕ
  pub c : ℕ
  pub order : ℕ
  pub site : Site

-- a site as a point, where k decides a tie
abbrev pub point_with : Leg → ℕ → Site → Point
point_with l k p = record { a = distance p.position l.s; c = distance p.position l.e; order = k; site = p }

-- a site as a point
abbrev pub point_of : Leg → Site → Point
point_of l p = point_with l (rank l p) p

-- sites as points
abbrev pub points : Leg → List Site → List Point
points l [] = []
points l (p ∷ s) = point_of l p ∷ points l s

-- what is compared at the weights m and n
abbrev pub value : ℕ → ℕ → Point → ℕ
value m n p = m * p.a + n * p.c

-- m·A + n·C of a site
unfoldable pub weigh : Leg → ℕ → ℕ → Site → ℕ
weigh l m n p = m * distance p.position l.s + n * distance p.position l.e

-- what is weighed at t
unfoldable pub weigh_at : Leg → Fraction → Site → ℕ
weigh_at l t p = weigh l (t.den - t.num) t.num p

-- how far v lies to the right of u
abbrev pub rise : Point → Point → ℕ
rise u v = v.a - u.a

-- how far v lies below u: the two tie at the weights m = fall, n = rise
abbrev pub fall : Point → Point → ℕ
fall u v = u.c - v.c

-- v lies to the right of u and below it
pub record RightBelow (u v : Point) : Type 0 where
  pub right : u.a < v.a
  pub down : v.c < u.c

-- the breakpoint of s and u comes before that of u and v
abbrev pub Bends : Point → Point → Point → Type 0
Bends s u v = rise s u * fall u v < rise u v * fall s u

-- p comes before q at the weights m, n: by value, then by c, then by order
pub record Beats (m n : ℕ) (p q : Point) : Type 0 where
  pub low : value m n p ≤ value m n q
  pub then_c : value m n q ≤ value m n p → p.c ≤ q.c
  pub then_order : value m n q ≤ value m n p → q.c ≤ p.c → p.order ≤ q.order

-- p is one of l
abbrev pub In : Point → List Point → Type 0
In p l = Memᴰ p l

-- every point of l is one of Q
abbrev pub Sub : List Point → List Point → Type 0
Sub l Q = (v : Point) → In v l → In v Q

-- at every weight strictly inside the leg, each point of Q is beaten by one of l
abbrev pub Covers : List Point → List Point → Type 0
Covers l Q = (m n : ℕ) → 0 < m → 0 < n → (q : Point) → In q Q → (v : Point) × In v l × Beats m n v q

-- v may stand on l, whose last vertex comes first: it lies right of and below that, and the breakpoints rise
abbrev pub Under : Point → List Point → Type 0
Under v [] = Unit {0}
Under v (u ∷ []) = RightBelow u v
Under v (u ∷ s ∷ l) = RightBelow u v × Bends s u v

-- a list of vertices, the last one first
abbrev pub Convex : List Point → Type 0
Convex [] = Unit {0}
Convex (v ∷ l) = Under v l × Convex l

-- l is the hull of Q, the last vertex first
pub record IsHull (Q l : List Point) : Type 0 where
  pub convex : Convex l
  pub sub : Sub l Q
  pub covers : Covers l Q
