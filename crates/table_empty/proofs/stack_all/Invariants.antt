use Rattle.table_empty.proofs.Laying.{Stacking}
use Rattle.table_empty.proofs.stack_all.Given as goal

abbrev pub invariant-loop-k : goal.invariant-loop-k
invariant-loop-k l = Stacking l.initial.t l.k l.t
