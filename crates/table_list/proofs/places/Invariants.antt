use Rattle.table_list.proofs.Rows.{Loading}
use Rattle.table_list.proofs.places.Given as goal

abbrev pub invariant-loop-i : goal.invariant-loop-i
invariant-loop-i l = Loading l.t l.k l.i l.initial.work l.work
