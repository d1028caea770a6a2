-- A cut of a row in hand, and two of the row's vertices.
-- Assumes nothing.
use Rattle.std.specs.Prelude.{◌≡◌, Option, None, Some, List, ℕ, ◌<◌}
use Rattle.grid.specs.declared.Leg.{Leg}
use Rattle.list_row.specs.declared.Vertex.{Vertex}
use Rattle.list_row.specs.declared.Gap.{Gap}
use Rattle.list_row.specs.Vertices.{IsVertex, place_at, Cut}

-- v stands in the first k of a row
pub record Stands (l : Leg) (t r : List ℕ) (k : ℕ) (v : Vertex) : Type 0 where
  pub at : ℕ
  pub within : at < k
  pub is : IsVertex l t (place_at r at) v

-- g has the cut at a and two vertices of the row. Which two they are needs no proof: any two serve a skip.
pub record About (l : Leg) (t r : List ℕ) (k a : ℕ) (g : Gap) : Type 0 where
  pub cut : Cut l t r k a g.n
  pub left : Stands l t r k g.left
  pub right : Stands l t r k g.right

-- the cut at a and two vertices of the row, or nothing, only where the row is empty
abbrev pub Cuts : Leg → List ℕ → List ℕ → ℕ → ℕ → Option Gap → Type 0
Cuts l t r k a (Some g) = About l t r k a g
Cuts l t r k a None = k ≡ 0
