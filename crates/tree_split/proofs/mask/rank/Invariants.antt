use Rattle.std.proofs.Common.{◌≤◌}
use Rattle.tree_split.proofs.mask.rank.Given as goal

abbrev pub invariant-loop-k : goal.invariant-loop-k
invariant-loop-k l = l.r ≤ l.k-index
