-- Where the site array stands in the table (docs/LAYOUT.md): behind the header, which has the count.
-- Assumes nothing.
use Rattle.std.specs.Prelude.{ℕ, ◌+◌, ◌*◌}
use Rattle.limits.specs.Limits.{max_sites}

-- the records: number, east, north and a word that is 0, 16 bits each
abbrev pub site_start : ℕ
site_start = 64

-- the bytes of a record
abbrev pub site_bytes : ℕ
site_bytes = 8

-- where in a record its easting stands
abbrev pub east_offset : ℕ
east_offset = 2

-- where in a record its northing stands
abbrev pub north_offset : ℕ
north_offset = 4

-- where in a record the word that is 0 stands
abbrev pub spare_offset : ℕ
spare_offset = 6

-- where record k begins
abbrev pub record_start : ℕ → ℕ
record_start k = site_start + site_bytes * k

-- where the last record ends
abbrev pub site_end : ℕ
site_end = site_start + site_bytes * max_sites
