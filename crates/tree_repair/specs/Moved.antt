-- What moving entries from one node to another does.
-- Assumes nothing.
use Rattle.std.specs.Prelude.{◌≡◌, List, ◌++◌, ℕ, ◌+◌, length}
use Rattle.tree_node.specs.Node.{entries, OnlyTwo}
use Rattle.permutation.specs.Perm.{Perm}

-- m entries have gone from node c to node d, and all else is as it was
pub record Moved (c d m : ℕ) (b b' : List ℕ) : Type 0 where
  pub perm : Perm (entries b c ++ entries b d) (entries b' c ++ entries b' d)
  pub fewer : length (entries b' c) + m ≡ length (entries b c)
  pub more : length (entries b' d) ≡ length (entries b d) + m
  pub rest : OnlyTwo c d b b'
