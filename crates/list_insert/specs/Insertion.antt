-- What the steps of an insertion do to a row. `push` is that of the computed split list (split, specs/SplitOf.antt).
-- Assumes nothing.
use Rattle.std.specs.Prelude.{◌≡◌, Option, None, Some, ◌⊎◌, List, ◌∷◌, ℕ, ◌+◌, ◌*◌, ◌-◌, ◌≤◌, ◌<◌, length}
use Rattle.limits.specs.Limits.{max_sites}
use Rattle.words.specs.Words.{Only}
use Rattle.grid.specs.declared.Leg.{Leg}
use Rattle.split.specs.Hull.{Point, RightBelow, Bends, Beats, IsHull}
use Rattle.split.specs.SplitOf.{push}
use Rattle.list_row.specs.declared.Vertex.{Vertex}
use Rattle.list_row.specs.Vertices.{row_bytes, place_at, vertex_in, stack, Held}

-- room for one vertex more than k
pub record RowRoom (k : ℕ) (r : List ℕ) : Type 0 where
  pub few : k < max_sites
  pub row : row_bytes ≤ length r

-- `Bends` of vertices in hand, by their distances
abbrev pub BendsInHand : Vertex → Vertex → Vertex → Type 0
BendsInHand s u x = (u.a - s.a) * (u.c - x.c) < (x.a - u.a) * (s.c - u.c)

-- pushed on the first k, x goes on the first j of them, or (none) nowhere
abbrev pub Placed : Leg → List ℕ → List ℕ → ℕ → Point → Option ℕ → Type 0
Placed l t r k x (Some j) = (j ≤ k) × (push x (stack l t r k) ≡ x ∷ stack l t r j)
Placed l t r k x None = (j : ℕ) × (j ≤ k) × (push x (stack l t r k) ≡ stack l t r j)

-- the vertex at i stays behind x: it lies right of and below x, and the breakpoints rise
pub record Stays (l : Leg) (t r : List ℕ) (k : ℕ) (x : Point) (i : ℕ) : Type 0 where
  pub step : RightBelow x (vertex_in l t r i)
  pub turn : i + 1 < k → Bends x (vertex_in l t r i) (vertex_in l t r (i + 1))

-- x beats q, or the vertex at i does
abbrev pub EitherBeats : Leg → List ℕ → List ℕ → ℕ → Point → ℕ → ℕ → ℕ → Point → Type 0
EitherBeats l t r k x i m w q = Beats m w x q ⊎ ((i < k) × Beats m w (vertex_in l t r i) q)

-- x takes over the vertices from n up to i
pub record TakenOver (l : Leg) (t r : List ℕ) (k n : ℕ) (x : Point) (i : ℕ) : Type 0 where
  pub from : n ≤ i
  pub upto : i ≤ k
  pub beaten : (h : ℕ) → n ≤ h → h < i → (m w : ℕ) → 0 < m → 0 < w → EitherBeats l t r k x i m w (vertex_in l t r h)

-- i is the first from n on that stays behind x
pub record Tangent (l : Leg) (t r : List ℕ) (k n : ℕ) (x : Point) (i : ℕ) : Type 0 where
  pub over : TakenOver l t r k n x i
  pub stays : i < k → Stays l t r k x i

-- x lies between the vertex at j - 1 and the vertex at i
pub record Between (l : Leg) (t r : List ℕ) (k j i : ℕ) (x : Point) : Type 0 where
  pub left : 0 < j → RightBelow (vertex_in l t r (j - 1)) x
  pub right : i < k → RightBelow x (vertex_in l t r i)

-- x lies strictly below the chord of the two
abbrev pub BelowChord : Leg → List ℕ → List ℕ → ℕ → ℕ → ℕ → Point → Type 0
BelowChord l t r k j i x = 0 < j → i < k → Bends (vertex_in l t r (j - 1)) x (vertex_in l t r i)

-- r' has the first j of r, then p, then the places of r from i up to k
pub record Spliced (r : List ℕ) (k j i p : ℕ) (r' : List ℕ) : Type 0 where
  pub only : Only 0 row_bytes r r'
  pub left : (m : ℕ) → m < j → place_at r' m ≡ place_at r m
  pub here : place_at r' j ≡ p
  pub right : (m : ℕ) → i + m < k → place_at r' (j + 1 + m) ≡ place_at r (i + m)

-- the row r' holds n vertices: the hull of the first k of r and x
pub record Inserted (l : Leg) (t r : List ℕ) (k : ℕ) (x : Point) (r' : List ℕ) (n : ℕ) : Type 0 where
  pub within : n ≤ k + 1
  pub held : Held l t r' n
  pub hull : IsHull (x ∷ stack l t r k) (stack l t r' n)
  pub only : Only 0 row_bytes r r'
