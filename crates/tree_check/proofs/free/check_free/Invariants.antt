use Rattle.tree_check.proofs.Stack.{Tested}
use Rattle.tree_check.proofs.free.check_free.Given as goal

abbrev pub invariant-loop-k : goal.invariant-loop-k
invariant-loop-k l = Tested l.t l.initial.seen l.seen l.n l.k
