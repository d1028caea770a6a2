use Rattle.table_standing.proofs.Numbers.{Numbering}
use Rattle.table_standing.proofs.number_row.Given as goal

abbrev pub invariant-loop-i : goal.invariant-loop-i
invariant-loop-i l = Numbering l.t l.initial.work l.k l.i l.work
