-- The leaf entries that the lines of the site array ask for.
-- Assumes nothing.
use Rattle.std.specs.Prelude.{cond, List, [], ◌∷◌, ◌≡◌, ℕ, suc, ◌<◌, eqb, length, get_or}
use Rattle.grid.specs.declared.Site.{Site}
use Rattle.table_sites.specs.Lines.{no_site}
use Rattle.tree_node.specs.declared.NodeEntry.{NodeEntry}

-- the leaf entry of a site: its number, its position as a box, and a spare number of 0
abbrev pub leaf_entry : Site → NodeEntry
leaf_entry p =
    record {
      reference = p.number;
      west = p.position.east;
      south = p.position.north;
      east = p.position.east;
      north = p.position.north;
      spare = 0;
    }

-- the leaf entries of sites
unfoldable pub leaf_entries : List Site → List NodeEntry
leaf_entries [] = []
leaf_entries (p ∷ s) = leaf_entry p ∷ leaf_entries s

-- which line has the number x, counted from 0; as many as there are lines where none has it
unfoldable pub index_of : List Site → ℕ → ℕ
index_of [] x = 0
index_of (p ∷ s) x = cond (eqb p.number x) 0 (suc (index_of s x))

-- e is the leaf entry of the line that has its number
pub record Known (s : List Site) (e : NodeEntry) : Type 0 where
  pub held : index_of s e.reference < length s
  pub leaf : e ≡ leaf_entry (get_or s (index_of s e.reference) no_site)
