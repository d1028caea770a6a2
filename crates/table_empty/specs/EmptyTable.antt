-- What laying out writes: "The laying-out call writes an empty table with no standing leg." Every byte is fixed:
-- zero, but for the layout's number and the stack of free nodes, on which all nodes of the pool stand.
-- Assumes nothing.
use Rattle.std.specs.Prelude.{List, ℕ, zero, suc, ◌+◌, ◌*◌, replicate}
use Rattle.limits.specs.Limits.{max_nodes, table_bytes}
use Rattle.words.specs.Words.{put_word}
use Rattle.table_header.specs.Layout.{layout_start, layout_number}
use Rattle.tree_node.specs.Layout.{free_start, stack_start}

-- n bytes 0
abbrev pub zeros : ℕ → List ℕ
zeros n = replicate n 0

-- the nodes 0 up to k on the stack of b
unfoldable pub stacked : ℕ → List ℕ → List ℕ
stacked zero b = b
stacked (suc k) b = put_word (stacked k b) (stack_start + 2 * k) k

-- a table's bytes, all 0 but for the layout's number
unfoldable pub numbered : List ℕ
numbered = put_word (zeros table_bytes) layout_start layout_number

-- the empty table
unfoldable pub empty_table : List ℕ
empty_table = put_word (stacked max_nodes numbered) free_start max_nodes
