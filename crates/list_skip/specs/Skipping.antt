-- Corners, and what dealing with a site does to a row.
-- Document 01, "The tree": "Which subtrees a search skips is the team's choice."
-- Assumes nothing.
use Rattle.std.specs.Prelude.{◌≡◌, false, Option, None, Some, ◌⊎◌, List, ◌∷◌, ℕ, ◌+◌, ◌^◌, ◌≤◌, ◌<◌}
use Rattle.limits.specs.Limits.{max_sites}
use Rattle.words.specs.Words.{Only}
use Rattle.grid.specs.declared.Site.{Site}
use Rattle.grid.specs.declared.Leg.{Leg}
use Rattle.grid.specs.declared.Area.{Area}
use Rattle.grid.specs.declared.Corner.{Corner}
use Rattle.grid.specs.Area.{area_distance}
use Rattle.grid.specs.Says.{If}
use Rattle.split.specs.Hull.{Point, In}
use Rattle.split.specs.Skip.{Shut, ShutOut}
use Rattle.list_row.specs.declared.Vertex.{Vertex}
use Rattle.list_row.specs.declared.Gap.{Gap}
use Rattle.list_row.specs.Places.{site_at}
use Rattle.list_row.specs.Vertices.{Small, point_at, row_bytes, stack, Held, Lists, Cut}
use Rattle.list_skip.specs.declared.Edge.{Edge}
use Rattle.list_skip.specs.declared.Seen.{Seen}

-- squared distances that 31 bits hold
pub record SmallCorner (k : Corner) : Type 0 where
  pub small_a : k.a < 2 ^ 31
  pub small_c : k.c < 2 ^ 31

-- squared distances that 31 bits hold
pub record SmallEdge (e : Edge) : Type 0 where
  pub left : SmallCorner e.left
  pub right : SmallCorner e.right

-- the left end or the whole edge shuts the corner (a, c) out
abbrev pub EdgeShuts : Edge → ℕ → ℕ → Type 0
EdgeShuts e a c = Shut e.left e.left a c ⊎ Shut e.left e.right a c

-- what the edge shuts out, the list l shuts out
pub record Knows (e : Edge) (l : List Point) : Type 0 where
  pub small : SmallEdge e
  pub shuts : (k : Corner) → SmallCorner k → EdgeShuts e k.a k.c → ShutOut l k.a k.c

-- what the edge shuts out, every list shuts out: nothing
abbrev pub KnowsNothing : Edge → Type 0
KnowsNothing e = (l : List Point) → Knows e l

-- the edge of two vertices in hand
abbrev pub edge_of : Vertex → Vertex → Edge
edge_of u v = record { left = record { a = u.a; c = u.c }; right = record { a = v.a; c = v.c } }

-- s has the cut of g, the edge of its two vertices, and says "shut" only if that edge shuts the corner k out
pub record SeenAbout (g : Gap) (k : Corner) (s : Seen) : Type 0 where
  pub cut : s.cut ≡ g.n
  pub edge : s.edge ≡ edge_of g.left g.right
  pub shut : If s.shut (EdgeShuts s.edge k.a k.c)

-- vertices whose squared distances 31 bits hold
abbrev pub SmallGap : Option Gap → Type 0
SmallGap (Some g) = Small g.left × Small g.right
SmallGap None = Unit {0}

-- s does not say "shut", and has the cut of an empty row and an edge that shuts nothing out
pub record SeenNothing (s : Seen) : Type 0 where
  pub shut : s.shut ≡ false
  pub cut : s.cut ≡ 0
  pub edge : KnowsNothing s.edge

-- what s says of the corner k is told by two vertices, or by none
abbrev pub SeenAt : Option Gap → Corner → Seen → Type 0
SeenAt (Some g) k s = SeenAbout g k s
SeenAt None k s = SeenNothing s

-- what s says of the corner k is true of the first n of the row r: "shut" only if the list shuts it out, its cut, and
-- an edge of the list
pub record Looked (l : Leg) (t r : List ℕ) (n : ℕ) (k : Corner) (s : Seen) : Type 0 where
  pub shut : If s.shut (ShutOut (stack l t r n) k.a k.c)
  pub cut : Cut l t r n k.a s.cut
  pub knows : Knows s.edge (stack l t r n)

-- k has the squared distances of S and of E from the box: no site in it is nearer
pub record IsCorner (l : Leg) (b : Area) (k : Corner) : Type 0 where
  pub a_is : k.a ≡ area_distance b l.s
  pub c_is : k.c ≡ area_distance b l.e
  pub small : SmallCorner k

-- there is room for the site at p in a row of k; in a full row it stands already
abbrev pub Space : Leg → List ℕ → List ℕ → ℕ → ℕ → Type 0
Space l t r k p = max_sites ≤ k → In (point_at l t p) (stack l t r k)

-- the row r' has the list of one site more than the row r: the site at p
pub record Dealt (l : Leg) (t r : List ℕ) (k p : ℕ) (r' : List ℕ) (n : ℕ) : Type 0 where
  pub within : n ≤ k + 1
  pub held : Held l t r' n
  pub lists : (s : List Site) → Lists l t r k s → Lists l t r' n (site_at t p ∷ s)
  pub only : Only 0 row_bytes r r'
