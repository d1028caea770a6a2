-- What a repair needs of a node and its children, and what it does: nodes and their entries only, whatever stands
-- below them.
-- Assumes nothing.
use Rattle.std.specs.Prelude.{◌≡◌, List, [], ◌∷◌, ◌++◌, ℕ, ◌+◌, ◌≤◌, ◌<◌, length}
use Rattle.limits.specs.Limits.{max_entries, min_entries, max_nodes, table_bytes}
use Rattle.words.specs.Words.{Only}
use Rattle.tree_node.specs.declared.NodeEntry.{NodeEntry}
use Rattle.tree_node.specs.Layout.{free_start}
use Rattle.tree_node.specs.Node.{entries}
use Rattle.tree_node.specs.Free.{free}
use Rattle.tree_node.specs.Boxes.{hull}
use Rattle.tree_rules.specs.Tree.{Each}
use Rattle.permutation.specs.Perm.{Perm}

-- d is a child of node n beside the child c, and has the entries that a node has to have
pub record Sibling (n c : ℕ) (b : List ℕ) (d : ℕ) : Type 0 where
  pub id : d < max_nodes
  pub under : n ≡ d → ⊥
  pub other : c ≡ d → ⊥
  pub least : min_entries ≤ length (entries b d)

-- c is a child of node n and may have lost one of its entries; l are n's other entries
pub record Loose (n c : ℕ) (l : List NodeEntry) (b : List ℕ) : Type 0 where
  pub len : length b ≡ table_bytes
  pub parent : n < max_nodes
  pub child : c < max_nodes
  pub under : n ≡ c → ⊥
  pub least : 2 ≤ length (entries b c)
  pub siblings : Each (λ g. Sibling n c b g.reference) l
  pub room : length (free b) < max_nodes

-- the child c of node n has two entries, and d is a sibling of it: n has room for the entries of both
pub record SiblingPair (n c d : ℕ) (b : List ℕ) : Type 0 where
  pub len : length b ≡ table_bytes
  pub parent : n < max_nodes
  pub child : c < max_nodes
  pub under : n ≡ c → ⊥
  pub two : length (entries b c) ≡ 2
  pub sibling : Sibling n c b d
  pub fits : length (entries b n) + 2 ≤ max_entries
  pub room : length (free b) < max_nodes

-- c has entries enough: node n has c's entry after the entries l
pub record Lifted (n c : ℕ) (l : List NodeEntry) (b b' : List ℕ) : Type 0 where
  pub least : min_entries ≤ length (entries b c)
  pub here : entries b' n ≡ l ++ (hull c (entries b c) ∷ [])
  pub same : free b' ≡ free b
  pub rest : (m : ℕ) → (m ≡ n → ⊥) → entries b' m ≡ entries b m
  pub only : Only free_start table_bytes b b'

-- d has the entries of both, and c is free: node n has d's entry after the entries l
pub record Merged (n c d : ℕ) (l : List NodeEntry) (b b' : List ℕ) : Type 0 where
  pub perm : Perm (entries b c ++ entries b d) (entries b' d)
  pub least : min_entries ≤ length (entries b' d)
  pub here : entries b' n ≡ l ++ (hull d (entries b' d) ∷ [])
  pub more : free b' ≡ c ∷ free b
  pub rest : (m : ℕ) → (m ≡ n → ⊥) → (m ≡ c → ⊥) → (m ≡ d → ⊥) → entries b' m ≡ entries b m
  pub only : Only free_start table_bytes b b'

-- c and d share their entries anew, each with as many as a node has to have: node n has the entries of both after the
-- entries l
pub record Shared (n c d : ℕ) (l : List NodeEntry) (b b' : List ℕ) : Type 0 where
  pub perm : Perm (entries b c ++ entries b d) (entries b' c ++ entries b' d)
  pub least : min_entries ≤ length (entries b' c)
  pub least₂ : min_entries ≤ length (entries b' d)
  pub here : entries b' n ≡ (l ++ (hull c (entries b' c) ∷ [])) ++ (hull d (entries b' d) ∷ [])
  pub same : free b' ≡ free b
  pub rest : (m : ℕ) → (m ≡ n → ⊥) → (m ≡ c → ⊥) → (m ≡ d → ⊥) → entries b' m ≡ entries b m
  pub only : Only free_start table_bytes b b'

-- c and d are joined under node n, whose other entries are l
pub data Joined (n c d : ℕ) (l : List NodeEntry) (b b' : List ℕ) : Type 0 where
  merged : Merged n c d l b b' → Joined n c d l b b'
  shared : Shared n c d l b b' → Joined n c d l b b'

-- node n, whose other entries were l, has the entry of its child c again, or is joined with one of those
pub data Repaired (n c : ℕ) (l : List NodeEntry) (b b' : List ℕ) : Type 0 where
  lifted : Lifted n c l b b' → Repaired n c l b b'
  joined_to : (g : NodeEntry) (stay : List NodeEntry) → Perm l (g ∷ stay) → Joined n c g.reference stay b b' → Repaired n c l b b'
