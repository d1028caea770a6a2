use Rattle.std.proofs.Common.{◌<◌, length}
use Rattle.tree_node.specs.Node.{entries}
use Rattle.tree_node.proofs.pool.least_by.Given as goal

abbrev pub invariant-loop-k : goal.invariant-loop-k
invariant-loop-k g l = l.best < length (entries l.table l.n)
