-- Leaf entries as sites, and the boxes of entries as areas of the grid.
-- Document 01, "The tree": "Every held site is in one leaf entry."
-- Assumes nothing.
use Rattle.std.specs.Prelude.{◌≡◌, List, [], ◌∷◌}
use Rattle.grid.specs.declared.Site.{Site}
use Rattle.grid.specs.declared.Area.{Area}
use Rattle.grid.specs.Position.{OnGrid}
use Rattle.grid.specs.Area.{AreaOnGrid}
use Rattle.tree_node.specs.declared.NodeEntry.{NodeEntry}

-- the site of a leaf entry: its box begins with the site's position
abbrev pub site_of : NodeEntry → Site
site_of e = record { number = e.reference; position = record { east = e.west; north = e.south } }

-- the box of a leaf entry is its site's position alone, which is on the grid
pub record LeafPoint (e : NodeEntry) : Type 0 where
  pub east : e.east ≡ e.west
  pub north : e.north ≡ e.south
  pub on_grid : OnGrid (site_of e).position

-- the sites of leaf entries
unfoldable pub sites : List NodeEntry → List Site
sites [] = []
sites (e ∷ l) = site_of e ∷ sites l

-- the box of an entry
abbrev pub area_of : NodeEntry → Area
area_of e = record { west = e.west; south = e.south; east = e.east; north = e.north }

-- the box of an entry has a position in it, and lies on the grid
abbrev pub BoxOnGrid : NodeEntry → Type 0
BoxOnGrid e = AreaOnGrid (area_of e)
