-- What the steps of an addition say. A ninth entry is never stored: it is handed back.
-- Assumes nothing.
use Rattle.std.specs.Prelude.{◌≡◌, List, [], ◌∷◌, ◌++◌, ℕ, suc, ◌+◌, ◌*◌, ◌≤◌, ◌<◌, length, set, Option, None, Some}
use Rattle.limits.specs.Limits.{max_entries, max_nodes, table_bytes}
use Rattle.words.specs.Words.{Only}
use Rattle.tree_node.specs.declared.NodeEntry.{NodeEntry}
use Rattle.tree_node.specs.declared.Top.{Top}
use Rattle.tree_node.specs.Layout.{free_start, node_bytes, base}
use Rattle.tree_node.specs.Node.{entries}
use Rattle.tree_node.specs.Free.{free}
use Rattle.tree_node.specs.Boxes.{hull}
use Rattle.tree_node.specs.Tally.{total, hit, tally, Within}
use Rattle.tree_rules.specs.Tree.{joined, leaves, nodes, leaves_at, nodes_at, Each, SoundUnder}
use Rattle.tree_rules.specs.Rooted.{tree_leaves, tree_nodes, RootSound, Rooted}

-- the entry handed back, if there is one
unfoldable pub spill : Option NodeEntry → List NodeEntry
spill None = []
spill (Some x) = x ∷ []

-- e is put after the entries of node n, or handed back where n has eight
pub record PutBehind (r : Option NodeEntry) (n : ℕ) (e : NodeEntry) (b b' : List ℕ) : Type 0 where
  pub here : entries b' n ++ spill r ≡ entries b n ++ (e ∷ [])
  pub full : max_entries * length (spill r) ≤ length (entries b' n)
  pub only : Only (base n) (base n + node_bytes) b b'

-- node c, whose entries stand at height h, and the entries xs that it hands back may be taken apart
pub record Divisible (h c : ℕ) (xs : List NodeEntry) (b : List ℕ) : Type 0 where
  pub len : length b ≡ table_bytes
  pub id : c < max_nodes
  pub sound : Each (SoundUnder (entries b) h) (entries b c ++ xs)
  pub apart : (m : ℕ) → hit m c + tally m (joined (nodes (entries b) h) (entries b c ++ xs)) + tally m (free b) ≤ 1
  pub within : Within max_nodes (free b)

-- entry k of node n is anew the smallest box of node c, and a new node shares c's entries and xs where there are
-- nine; what then has no room in n is handed back
pub record Renewed (r : Option NodeEntry) (h n k c : ℕ) (xs : List NodeEntry) (b b' : List ℕ) : Type 0 where
  -- the new node's entry, if there is one
  pub extra : List NodeEntry
  pub few : length extra ≤ 1
  pub here : entries b' n ++ spill r ≡ set (entries b n) k (hull c (entries b' c)) ++ extra
  pub full : max_entries * length (spill r) ≤ length (entries b' n)
  pub sound : Each (SoundUnder (entries b') (suc h)) (hull c (entries b' c) ∷ extra)
  pub leaf : (w : NodeEntry → ℕ) → total w (joined (leaves (entries b') (suc h)) (hull c (entries b' c) ∷ extra))
      ≡ total w (joined (leaves (entries b) h) (entries b c ++ xs))
  pub ids : (w : ℕ → ℕ) → total w (joined (nodes (entries b') (suc h)) (hull c (entries b' c) ∷ extra)) + total w (free b')
      ≡ w c + total w (joined (nodes (entries b) h) (entries b c ++ xs)) + total w (free b)
  pub used : length (free b) ≤ length (free b') + 1
  pub left : (m : ℕ) → tally m (free b') ≤ tally m (free b)
  pub rest : (m : ℕ) → (m ≡ n → ⊥) → (m ≡ c → ⊥) → tally m (free b) ≡ 0 → entries b' m ≡ entries b m
  pub only : Only free_start table_bytes b b'

-- the leaf entry e stands under node n, whose entries stand at height h, or under what n hands back
pub record InsertedUnder (r : Option NodeEntry) (h n : ℕ) (e : NodeEntry) (b b' : List ℕ) : Type 0 where
  pub sound : Each (SoundUnder (entries b') h) (entries b' n ++ spill r)
  pub least : length (entries b n) ≤ length (entries b' n)
  pub full : max_entries * length (spill r) ≤ length (entries b' n)
  pub leaf : (w : NodeEntry → ℕ) → total w (joined (leaves (entries b') h) (entries b' n ++ spill r))
      ≡ w e + total w (leaves_at (entries b) h n)
  pub ids : (w : ℕ → ℕ) → w n + total w (joined (nodes (entries b') h) (entries b' n ++ spill r)) + total w (free b')
      ≡ total w (nodes_at (entries b) h n) + total w (free b)
  -- at most one free node is used for each level
  pub used : length (free b) ≤ length (free b') + h
  pub left : (m : ℕ) → tally m (free b') ≤ tally m (free b)
  pub rest : (m : ℕ) → tally m (nodes_at (entries b) h n) + tally m (free b) ≡ 0 → entries b' m ≡ entries b m
  pub only : Only free_start table_bytes b b'

-- the tree r has the leaf entries that stood under node n, whose entries stand at height g, and under xs
pub record Raised (r : Option Top) (g n : ℕ) (xs : List NodeEntry) (b b' : List ℕ) : Type 0 where
  pub top : RootSound (entries b') r
  pub leaf : (w : NodeEntry → ℕ) → total w (tree_leaves (entries b') r)
      ≡ total w (joined (leaves (entries b) g) (entries b n ++ xs))
  pub ids : (w : ℕ → ℕ) → total w (tree_nodes (entries b') r) + total w (free b')
      ≡ w n + total w (joined (nodes (entries b) g) (entries b n ++ xs)) + total w (free b)
  pub only : Only free_start table_bytes b b'

-- the leaf entry e is added to the tree r, which is r' then
pub record Planted (r : Option Top) (e : NodeEntry) (r' : Option Top) (b b' : List ℕ) : Type 0 where
  pub rooted : Rooted r' b'
  pub leaf : (w : NodeEntry → ℕ) → total w (tree_leaves (entries b') r') ≡ w e + total w (tree_leaves (entries b) r)
  pub only : Only free_start table_bytes b b'
