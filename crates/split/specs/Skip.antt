-- When all that lies no nearer than a corner (a, c) may be skipped: at every weight a listed point is below the
-- corner, which two points show. Ties are no skip: a site at the corner itself might come first by the tie rule.
-- Assumes nothing.
use Rattle.std.specs.Prelude.{List, ℕ, ◌+◌, ◌*◌, ◌≤◌, ◌<◌}
use Rattle.grid.specs.declared.Corner.{Corner}
use Rattle.split.specs.Hull.{Point, value, In}

-- a point by its squared distances alone
abbrev pub corner_of : Point → Corner
corner_of p = record { a = p.a; c = p.c }

-- u is as far left as the corner (a, c), v as low, and at one weight both are below it
pub record Shut (u v : Corner) (a c : ℕ) : Type 0 where
  pub m : ℕ
  pub n : ℕ
  pub left : u.a ≤ a
  pub low : v.c ≤ c
  pub under_u : m * u.a + n * u.c < m * a + n * c
  pub under_v : m * v.a + n * v.c < m * a + n * c

-- at every weight strictly inside the leg a point of the list is below the corner
pub record ShutOut (l : List Point) (a c : ℕ) : Type 0 where
  pub below : (m n : ℕ) → 0 < m → 0 < n → (x : Point) × In x l × (value m n x < m * a + n * c)

-- two points of the list shut the corner out
pub record Witness (l : List Point) (a c : ℕ) : Type 0 where
  pub u : Point
  pub v : Point
  pub has_u : In u l
  pub has_v : In v l
  pub shut : Shut (corner_of u) (corner_of v) a c
