-- The tree over a store, which gives each node's entries. Document 01, "The tree". A leaf entry stands at height 0,
-- and an entry at height h + 1 refers to a node whose entries stand at height h: "All leaves are on one level."
-- Assumes nothing.
use Rattle.std.specs.Prelude.{◌≡◌, List, [], ◌∷◌, ◌++◌, ℕ, zero, suc, ◌≤◌, ◌<◌, length}
use Rattle.limits.specs.Limits.{max_entries, min_entries, max_nodes}
use Rattle.tree_node.specs.declared.NodeEntry.{NodeEntry}
use Rattle.tree_node.specs.Boxes.{hull}

-- each node's entries
abbrev pub Store : Type 0
Store = ℕ → List NodeEntry

-- what f gives for each entry, one after the other
unfoldable pub joined : {A : Type 0} → (NodeEntry → List A) → List NodeEntry → List A
joined f [] = []
joined f (e ∷ l) = f e ++ joined f l

-- the leaf entries under e, which stands at height h, in reading order
unfoldable pub leaves : Store → ℕ → NodeEntry → List NodeEntry
leaves E zero e = e ∷ []
leaves E (suc h) e = joined (leaves E h) (E e.reference)

-- the nodes under e, which stands at height h, a parent before its children
unfoldable pub nodes : Store → ℕ → NodeEntry → List ℕ
nodes E zero e = []
nodes E (suc h) e = e.reference ∷ joined (nodes E h) (E e.reference)

-- the leaf entries under node n, whose entries stand at height h
unfoldable pub leaves_at : Store → ℕ → ℕ → List NodeEntry
leaves_at E h n = joined (leaves E h) (E n)

-- node n, whose entries stand at height h, and the nodes under it
unfoldable pub nodes_at : Store → ℕ → ℕ → List ℕ
nodes_at E h n = n ∷ joined (nodes E h) (E n)

-- P holds of each of l
unfoldable pub Each : (NodeEntry → Type 0) → List NodeEntry → Type 0
Each P [] = Unit {0}
Each P (e ∷ l) = P e × Each P l

-- e's child node keeps the rules on nodes, and P holds of each of its entries
pub record Child (E : Store) (P : NodeEntry → Type 0) (e : NodeEntry) : Type 0 where
  pub id : e.reference < max_nodes
  -- "Each box is the smallest that holds what lies under it"
  pub box : e ≡ hull e.reference (E e.reference)
  -- "A node other than the root holds at least 3"
  pub least : min_entries ≤ length (E e.reference)
  -- "A node holds at most 8 entries"
  pub most : length (E e.reference) ≤ max_entries
  pub below : Each P (E e.reference)

-- what stands under e, at height h, keeps the tree's rules
unfoldable pub SoundUnder : Store → ℕ → NodeEntry → Type 0
SoundUnder E zero e = Unit {0}
SoundUnder E (suc h) e = Child E (SoundUnder E h) e
