-- The numbers that document 01 fixes, with what document 02 changes of them, and how many nodes the pool has. Each
-- stands here for the definitions and in src/ for the code, and nowhere else.
-- Assumes nothing.
use Rattle.std.specs.Prelude.{ℕ, ◌*◌}

-- document 02, C-12: "Coordinates run from -12,000 to 12,000", "in steps of 100 m"
abbrev pub half_width : ℕ
half_width = 12000

-- the largest coordinate, counted from the grid's south-west corner
abbrev pub grid_width : ℕ
grid_width = 2 * half_width

-- the largest squared distance along one axis
abbrev pub max_square : ℕ
max_square = grid_width * grid_width

-- the largest squared distance of two positions
abbrev pub max_distance : ℕ
max_distance = 2 * max_square

-- document 02, C-12: "denominators reach 2,304,000,000 at most"
abbrev pub max_denominator : ℕ
max_denominator = 2 * max_distance

-- the largest product in a comparison of two fractions
abbrev pub max_comparison : ℕ
max_comparison = max_denominator * max_denominator

-- "A site has a number from 1 to 65,535"
abbrev pub max_number : ℕ
max_number = 65535

-- "A table holds 0 to 512 sites"
abbrev pub max_sites : ℕ
max_sites = 512

-- "A node holds at most 8 entries"
abbrev pub max_entries : ℕ
max_entries = 8

-- "A node other than the root holds at least 3"
abbrev pub min_entries : ℕ
min_entries = 3

-- "There are at most six levels"
abbrev pub max_levels : ℕ
max_levels = 6

-- the nodes of the pool: at most half as many as sites, and seven more for an addition
abbrev pub max_nodes : ℕ
max_nodes = 264

-- "The table is exactly 32,768 lent bytes"
abbrev pub table_bytes : ℕ
table_bytes = 32768

-- document 02, C-21: "The work buffer becomes exactly 2,048 bytes"
abbrev pub work_bytes : ℕ
work_bytes = 2048
