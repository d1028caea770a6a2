-- The tree's header: how many levels it has, and its root.
-- Assumes nothing.
use Rattle.std.specs.Prelude.{◌≡◌, List, ℕ, zero, suc, ◌<◌, Option, None, Some}
use Rattle.words.specs.Words.{word_at, Only}
use Rattle.tree_node.specs.declared.Top.{Top}
use Rattle.tree_node.specs.Layout.{tree_start, root_start, free_start}

-- the tree whose root is the node n, with its entries at height g
abbrev pub top : ℕ → ℕ → Option Top
top g n = Some (record { height = g; node = n })

-- a tree of so many levels under the node n: 0 levels are the empty tree, whatever n is
unfoldable pub root_of : ℕ → ℕ → Option Top
root_of zero n = None
root_of (suc g) n = top g n

-- the tree that the header tells
unfoldable pub root_in : List ℕ → Option Top
root_in b = root_of (word_at b tree_start) (word_at b root_start)

-- r's numbers fit in 16 bits each
unfoldable pub SmallRoot : Option Top → Type 0
SmallRoot None = Unit {0}
SmallRoot (Some r) = (suc r.height < 65536) × (r.node < 65536)

-- the header tells r, and all else is as it was
pub record Headed (r : Option Top) (b b' : List ℕ) : Type 0 where
  pub root : root_in b' ≡ r
  pub only : Only tree_start free_start b b'
