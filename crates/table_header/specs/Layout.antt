-- The table's first 64 bytes (docs/LAYOUT.md, "Header"). Each number stands here for the definitions and in src/ for
-- the code.
-- Assumes nothing.
use Rattle.std.specs.Prelude.{ℕ, ◌+◌}

-- the number of sites
abbrev pub count_start : ℕ
count_start = 0

-- what follows the number of sites
abbrev pub after_count : ℕ
after_count = 2

-- 1 where a standing leg is set, else 0
abbrev pub flag_start : ℕ
flag_start = 2

-- the leg: S east, S north, E east, E north, 16 bits each
abbrev pub leg_start : ℕ
leg_start = 4

-- the number of entries of the standing list
abbrev pub length_start : ℕ
length_start = 12

-- the number of the layout: its place is the same in every layout
abbrev pub layout_start : ℕ
layout_start = 14

-- the number of this layout: "its layout is the team's and stands in docs/"
abbrev pub layout_number : ℕ
layout_number = 2

-- 1 while a tour is under way, else 0
abbrev pub tour_start : ℕ
tour_start = layout_start + 2

-- the tour's last corner: east, north, 16 bits each
abbrev pub corner_start : ℕ
corner_start = tour_start + 2

-- the number of the site that is remembered in the tour, 0 where there is none yet
abbrev pub last_start : ℕ
last_start = corner_start + 4

-- what follows the tour
abbrev pub tour_end : ℕ
tour_end = last_start + 2

-- the bytes that are kept for later: from behind the last field
abbrev pub kept_start : ℕ
kept_start = tour_end

-- up to the header's end
abbrev pub kept_end : ℕ
kept_end = 64
