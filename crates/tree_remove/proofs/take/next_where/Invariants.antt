use Rattle.tree_node.specs.Node.{entries}
use Rattle.tree_remove.specs.Take.{Denied}
use Rattle.tree_remove.proofs.take.next_where.Given as goal

abbrev pub invariant-loop-i : goal.invariant-loop-i
invariant-loop-i g l = Denied (goal.F-post g l.asked) (entries l.table l.n) l.k l.i
