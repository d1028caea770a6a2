-- The free nodes: a stack of their ids.
-- Assumes nothing.
use Rattle.std.specs.Prelude.{◌≡◌, List, [], ◌∷◌, ℕ, zero, suc, ◌+◌, ◌*◌, ◌<◌}
use Rattle.limits.specs.Limits.{max_nodes, table_bytes}
use Rattle.words.specs.Words.{word_at, Only}
use Rattle.tree_node.specs.declared.NodeEntry.{NodeEntry}
use Rattle.tree_node.specs.Layout.{free_start, stack_start, pool_start, up_to}
use Rattle.tree_node.specs.Node.{entries}

-- the k numbers at i, i + 2, .., the last of them first
unfoldable pub numbers : List ℕ → ℕ → ℕ → List ℕ
numbers b i zero = []
numbers b i (suc k) = word_at b (i + 2 * k) ∷ numbers b i k

-- the ids of the free nodes, the next to be taken first
unfoldable pub free : List ℕ → List ℕ
free b = numbers b stack_start (up_to max_nodes (word_at b free_start))

-- the free node r is taken: it heads the free nodes of b, and those of b' are the others
pub record Popped (r : ℕ) (b b' : List ℕ) : Type 0 where
  pub taken : free b ≡ r ∷ free b'
  pub only : Only free_start pool_start b b'

-- node c is given back
pub record Given (c : ℕ) (b b' : List ℕ) : Type 0 where
  pub more : free b' ≡ c ∷ free b
  pub only : Only free_start pool_start b b'

-- the free node r is taken and has the entries l, and every other node is as it was
pub record Taken (r : ℕ) (l : List NodeEntry) (b b' : List ℕ) : Type 0 where
  pub taken : free b ≡ r ∷ free b'
  pub id : r < max_nodes
  pub here : entries b' r ≡ l
  pub rest : (m : ℕ) → (m ≡ r → ⊥) → entries b' m ≡ entries b m
  pub only : Only free_start table_bytes b b'
