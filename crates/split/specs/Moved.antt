-- Sites and legs counted from another corner. Document 02, C-12: where the grid reaches k steps farther on every side,
-- all that was on it before is k steps farther from its south-west corner.
-- Assumes nothing.
use Rattle.std.specs.Prelude.{ℕ, ◌+◌, ◌%◌}
use Rattle.grid.specs.declared.Position.{Position}
use Rattle.grid.specs.declared.Leg.{Leg}
use Rattle.grid.specs.declared.Site.{Site}
use Rattle.split.specs.SplitList.{Entry}

-- a position, counted from a corner that lies k steps to the west and to the south
abbrev pub moved_position : ℕ → Position → Position
moved_position k p = record { east = p.east + k; north = p.north + k }

-- a leg
abbrev pub moved_leg : ℕ → Leg → Leg
moved_leg k l = record { s = moved_position k l.s; e = moved_position k l.e }

-- a site, which keeps its number
abbrev pub moved_site : ℕ → Site → Site
moved_site k p = record { number = p.number; position = moved_position k p.position }

-- an entry, which keeps its start
abbrev pub moved_entry : ℕ → Entry → Entry
moved_entry k e = record { site = moved_site k e.site; start = e.start }

-- the coordinate that a signed 16-bit word stood for on the grid before, "from -8,000 to 8,000", counted from that
-- grid's corner: at most 16,000
abbrev pub earlier_word : ℕ → ℕ
earlier_word w = (w + 8000) % 65536

-- the position of two words there
abbrev pub earlier_position : ℕ → ℕ → Position
earlier_position e n = record { east = earlier_word e; north = earlier_word n }
