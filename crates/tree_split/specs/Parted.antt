-- What a split leaves: nine entries in two nodes. "A node other than the root holds at least 3", and at most 8: each
-- gets 3 to 6.
-- Assumes nothing.
use Rattle.std.specs.Prelude.{◌≡◌, List, ◌∷◌, ◌++◌, ℕ, ◌+◌, ◌-◌, ◌≤◌, ◌<◌, length}
use Rattle.limits.specs.Limits.{min_entries, max_entries, max_nodes, table_bytes}
use Rattle.words.specs.Words.{Only}
use Rattle.tree_node.specs.declared.NodeEntry.{NodeEntry}
use Rattle.tree_node.specs.Layout.{free_start}
use Rattle.tree_node.specs.Node.{entries, OnlyTwo}
use Rattle.tree_node.specs.Free.{free}
use Rattle.permutation.specs.Perm.{Perm}

-- what a split deals: the entries of a full node and one more
abbrev pub overfull : ℕ
overfull = max_entries + 1

-- what it leaves to a node at most: all but the least
abbrev pub most_parted : ℕ
most_parted = overfull - min_entries

-- one entry of node c has gone to node s, and no other node is changed
pub record MovedOne (c s : ℕ) (b b' : List ℕ) : Type 0 where
  pub whole : Perm (entries b' c ++ entries b' s) (entries b c ++ entries b s)
  pub more : length (entries b' s) ≡ length (entries b s) + 1
  pub rest : OnlyTwo c s b b'

-- entries of node c have gone to node s. The first k are still to be dealt, and so is the ninth: with them s can have
-- 3.
pub record Dealing (c s k : ℕ) (b b' : List ℕ) : Type 0 where
  pub whole : Perm (entries b' c ++ entries b' s) (entries b c ++ entries b s)
  pub left : k ≤ length (entries b' c)
  pub least : min_entries ≤ length (entries b' s) + k + 1
  pub most : length (entries b' s) ≤ most_parted
  pub rest : OnlyTwo c s b b'

-- x is added to node c or to node s, and each has 3 to 6 entries
pub record Ninth (c s : ℕ) (x : NodeEntry) (b b' : List ℕ) : Type 0 where
  pub whole : Perm (entries b' c ++ entries b' s) (x ∷ entries b c ++ entries b s)
  pub least : (min_entries ≤ length (entries b' c)) × (min_entries ≤ length (entries b' s))
  pub most : (length (entries b' c) ≤ most_parted) × (length (entries b' s) ≤ most_parted)
  pub rest : OnlyTwo c s b b'

-- node c, with eight entries, and the entry x are split: the free node s takes some of the nine, and each of the two
-- has 3 to 6
pub record Parted (c s : ℕ) (x : NodeEntry) (b b' : List ℕ) : Type 0 where
  pub taken : free b ≡ s ∷ free b'
  pub id : s < max_nodes
  pub whole : Perm (entries b' c ++ entries b' s) (x ∷ entries b c)
  pub least : (min_entries ≤ length (entries b' c)) × (min_entries ≤ length (entries b' s))
  pub most : (length (entries b' c) ≤ most_parted) × (length (entries b' s) ≤ most_parted)
  pub rest : (m : ℕ) → (m ≡ c → ⊥) → (m ≡ s → ⊥) → entries b' m ≡ entries b m
  pub only : Only free_start table_bytes b b'
