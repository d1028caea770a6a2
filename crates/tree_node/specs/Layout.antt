-- Where the tree stands in the table: the tree's part of docs/LAYOUT.md. Each number stands here for the definitions
-- and in src/lib.rt for the code. Below it the table has what the tree never touches. Assumes nothing.
use Rattle.std.specs.Prelude.{cond, ℕ, ◌+◌, ◌*◌, leb}

-- the tree's first byte: the number of levels, 0 where the tree is empty
abbrev pub tree_start : ℕ
tree_start = 5184

-- the root's node
abbrev pub root_start : ℕ
root_start = tree_start + 2

-- the number of free nodes
abbrev pub free_start : ℕ
free_start = tree_start + 4

-- the stack of their ids, 264 of 16 bits; nothing is demanded of the bytes from its end to node 0
abbrev pub stack_start : ℕ
stack_start = free_start + 2

-- node 0
abbrev pub pool_start : ℕ
pool_start = 6896

-- an entry: six numbers of 16 bits
abbrev pub node_entry_bytes : ℕ
node_entry_bytes = 12

-- where in an entry its western edge stands; the reference is before it
abbrev pub west_edge : ℕ
west_edge = 2

-- its southern edge
abbrev pub south_edge : ℕ
south_edge = 4

-- its eastern edge
abbrev pub east_edge : ℕ
east_edge = 6

-- its northern edge
abbrev pub north_edge : ℕ
north_edge = 8

-- the number that is 0
abbrev pub entry_spare : ℕ
entry_spare = 10

-- the number of a node's entries, before them
abbrev pub count_bytes : ℕ
count_bytes = 2

-- a node: the number of its entries, 16 bits, and room for eight
abbrev pub node_bytes : ℕ
node_bytes = 98

-- where node n starts
abbrev pub base : ℕ → ℕ
base n = pool_start + node_bytes * n

-- where entry k of node n starts
abbrev pub entry_start : ℕ → ℕ → ℕ
entry_start n k = base n + count_bytes + node_entry_bytes * k

-- a stored count c, of at most so many: one past the limit is read as 0, so that the rules on counts refuse it
unfoldable pub up_to : ℕ → ℕ → ℕ
up_to limit c = cond (leb c limit) c 0
