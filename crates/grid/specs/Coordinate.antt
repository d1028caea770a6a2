-- A coordinate of a command: "positions are two signed 16-bit numbers". Document 01, "Buffers and batches".
-- Assumes nothing.
use Rattle.std.specs.Prelude.{ℕ, ◌+◌, ◌-◌, ◌%◌}
use Rattle.limits.specs.Limits.{half_width}
use Rattle.grid.specs.declared.Position.{Position}

-- the number that a signed 16-bit word stands for, counted from the grid's south-west corner: on the grid it is at
-- most grid_width
unfoldable pub from_word : ℕ → ℕ
from_word w = (w + half_width) % 65536

-- the word that stands for a coordinate
unfoldable pub to_word : ℕ → ℕ
to_word x = (x + (65536 - half_width)) % 65536

-- the position of two words
abbrev pub word_position : ℕ → ℕ → Position
word_position e n = record { east = from_word e; north = from_word n }
