-- The boxes of entries. "Each box is the smallest that holds what lies under it."
-- Assumes nothing.
use Rattle.std.specs.Prelude.{List, [], ◌∷◌, ℕ, min, max, ◌≤◌}
use Rattle.tree_node.specs.declared.NodeEntry.{NodeEntry}

-- the entry f, its box widened to hold the box of e
unfoldable pub grow : NodeEntry → NodeEntry → NodeEntry
grow e f =
    record {
      reference = f.reference;
      west = min e.west f.west;
      south = min e.south f.south;
      east = max e.east f.east;
      north = max e.north f.north;
      spare = f.spare;
    }

-- the entry for the node c with the entries l: the smallest box that holds theirs
unfoldable pub hull : ℕ → List NodeEntry → NodeEntry
hull c [] = record { reference = c; west = 65535; south = 65535; east = 0; north = 0; spare = 0 }
hull c (e ∷ l) = grow e (hull c l)

-- p's box lies in e's
pub record InBox (p e : NodeEntry) : Type 0 where
  pub west : e.west ≤ p.west
  pub south : e.south ≤ p.south
  pub east : p.east ≤ e.east
  pub north : p.north ≤ e.north
