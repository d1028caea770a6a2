-- The whole tree: its root, and its place in the table. Document 01, "The tree".
-- Assumes nothing.
use Rattle.std.specs.Prelude.{◌≡◌, List, [], ℕ, ◌+◌, ◌≤◌, ◌<◌, length, Option, None, Some}
use Rattle.limits.specs.Limits.{max_entries, max_nodes, table_bytes}
use Rattle.tree_node.specs.declared.NodeEntry.{NodeEntry}
use Rattle.tree_node.specs.declared.Top.{Top}
use Rattle.tree_node.specs.Node.{entries}
use Rattle.tree_node.specs.Free.{free}
use Rattle.tree_node.specs.Header.{root_in}
use Rattle.tree_node.specs.Tally.{tally}
use Rattle.tree_rules.specs.Tree.{Store, leaves_at, nodes_at, Each, SoundUnder}

-- the leaf entries of the tree, in reading order
unfoldable pub tree_leaves : Store → Option Top → List NodeEntry
tree_leaves E None = []
tree_leaves E (Some r) = leaves_at E r.height r.node

-- the nodes of the tree
unfoldable pub tree_nodes : Store → Option Top → List ℕ
tree_nodes E None = []
tree_nodes E (Some r) = nodes_at E r.height r.node

-- the root node n, whose entries stand at height g, keeps the rules on roots
pub record RootNode (E : Store) (g n : ℕ) : Type 0 where
  pub id : n < max_nodes
  -- "a root that is no leaf holds at least 2"
  pub two : (g ≡ 0 → ⊥) → 2 ≤ length (E n)
  -- a tree that holds nothing has no node
  pub one : 1 ≤ length (E n)
  -- "A node holds at most 8 entries"
  pub most : length (E n) ≤ max_entries
  pub below : Each (SoundUnder E g) (E n)

-- the root keeps the rules
unfoldable pub RootSound : Store → Option Top → Type 0
RootSound E None = Unit {0}
RootSound E (Some r) = RootNode E r.height r.node

-- the tree under r keeps its rules, and each node of the pool is once in it or once free
pub record Rooted (r : Option Top) (b : List ℕ) : Type 0 where
  pub len : length b ≡ table_bytes
  pub top : RootSound (entries b) r
  pub apart : (m : ℕ) → tally m (tree_nodes (entries b) r) + tally m (free b) ≤ 1
  pub within : (m : ℕ) → 0 < tally m (tree_nodes (entries b) r) + tally m (free b) → m < max_nodes
  pub all : length (tree_nodes (entries b) r) + length (free b) ≡ max_nodes

-- the leaf entries of the tree that the table's header tells
unfoldable pub leaves_in : List ℕ → List NodeEntry
leaves_in b = tree_leaves (entries b) (root_in b)
