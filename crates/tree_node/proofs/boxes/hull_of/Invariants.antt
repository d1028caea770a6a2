use Rattle.std.proofs.Common.{◌≡◌}
use lib.ListN.{drop}
use Rattle.tree_node.specs.Node.{entries}
use Rattle.tree_node.specs.Boxes.{hull}
use Rattle.tree_node.proofs.boxes.hull_of.Given as goal

abbrev pub invariant-loop-k : goal.invariant-loop-k
invariant-loop-k l = l.f ≡ hull l.n (drop l.k (entries l.table l.n))
