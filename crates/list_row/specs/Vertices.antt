-- A row of places as the vertices of a hull: the list that the code builds. Document 01, "The split list": "The list
-- is a row of entries, each a site and a start"; the row has the sites, and the starts follow from neighbours.
-- Assumes nothing.
use Rattle.std.specs.Prelude.{◌≡◌, List, [], ◌∷◌, ℕ, zero, suc, ◌*◌, ◌-◌, ◌^◌, ◌≤◌, ◌<◌, length}
use Rattle.limits.specs.Limits.{max_sites}
use Rattle.words.specs.Words.{word_at, put_word}
use Rattle.grid.specs.declared.Site.{Site}
use Rattle.grid.specs.declared.Leg.{Leg}
use Rattle.split.specs.SplitList.{Entry}
use Rattle.split.specs.Hull.{Point, point_of, points, Convex, IsHull}
use Rattle.split.specs.SplitOf.{entries_of}
use Rattle.list_row.specs.Places.{site_at, HasSite}
use Rattle.list_row.specs.declared.Vertex.{Vertex}

-- squared distances that 31 bits hold: the product of two of their differences then fits 64 bits
pub record Small (v : Vertex) : Type 0 where
  pub small_a : v.a < 2 ^ 31
  pub small_c : v.c < 2 ^ 31

-- the point of the site at a place
abbrev pub point_at : Leg → List ℕ → ℕ → Point
point_at l t p = point_of l (site_at t p)

-- v is the site at place p, measured
pub record IsVertex (l : Leg) (t : List ℕ) (p : ℕ) (v : Vertex) : Type 0 where
  pub place_is : v.place ≡ p
  pub a_is : v.a ≡ (point_at l t p).a
  pub c_is : v.c ≡ (point_at l t p).c
  pub small : Small v

-- the bytes of a row that holds every site
abbrev pub row_bytes : ℕ
row_bytes = 2 * max_sites

-- the place that stands in a row at i
unfoldable pub place_at : List ℕ → ℕ → ℕ
place_at r i = word_at r (2 * i)

-- the row with place p at i
abbrev pub put_place : List ℕ → ℕ → ℕ → List ℕ
put_place r i p = put_word r (2 * i) p

-- the point that stands in a row at i
abbrev pub vertex_in : Leg → List ℕ → List ℕ → ℕ → Point
vertex_in l t r i = point_at l t (place_at r i)

-- the first k of a row, the last one first
abbrev pub stack : Leg → List ℕ → List ℕ → ℕ → List Point
stack l t r zero = []
stack l t r (suc k) = vertex_in l t r k ∷ stack l t r k

-- the first k of a row are places of sites, and the vertices of a hull
pub record Held (l : Leg) (t r : List ℕ) (k : ℕ) : Type 0 where
  pub inside : 2 * k ≤ length r
  pub few : k ≤ max_sites
  pub sites : (i : ℕ) → i < k → HasSite t (place_at r i)
  pub convex : Convex (stack l t r k)

-- the first k of a row are the hull of the sites s
abbrev pub Lists : Leg → List ℕ → List ℕ → ℕ → List Site → Type 0
Lists l t r k s = IsHull (points l s) (stack l t r k)

-- the entries that the first k of a row stand for
abbrev pub entries_in : Leg → List ℕ → List ℕ → ℕ → List Entry
entries_in l t r k = entries_of (stack l t r k)

-- n parts the first k: those below it are not right of a, the others are
pub record Cut (l : Leg) (t r : List ℕ) (k a n : ℕ) : Type 0 where
  pub within : n ≤ k
  pub left : 0 < n → (vertex_in l t r (n - 1)).a ≤ a
  pub right : (i : ℕ) → n ≤ i → i < k → a < (vertex_in l t r i).a

-- lo and hi are on their sides of the cut at a
pub record CutBetween (l : Leg) (t r : List ℕ) (k a lo hi : ℕ) : Type 0 where
  pub order : lo ≤ hi
  pub within : hi ≤ k
  pub left : 0 < lo → (vertex_in l t r (lo - 1)).a ≤ a
  pub right : hi < k → a < (vertex_in l t r hi).a
