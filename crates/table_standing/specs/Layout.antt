-- Where the standing list stands in the table (docs/LAYOUT.md). Its length stands in the header.
-- Assumes nothing.
use Rattle.std.specs.Prelude.{ℕ, ◌+◌, ◌*◌}
use Rattle.limits.specs.Limits.{max_sites}

-- the standing list: the site number of each entry, 16 bits
abbrev pub list_start : ℕ
list_start = 4160

-- where it ends
abbrev pub list_end : ℕ
list_end = list_start + 2 * max_sites
