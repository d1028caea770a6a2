use Rattle.table_list.proofs.Naming.{Unnamed}
use Rattle.table_list.proofs.lists.Given as goal

abbrev pub invariant-loop-i : goal.invariant-loop-i
invariant-loop-i l = Unnamed l.t l.k l.n l.i
