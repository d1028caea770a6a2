use Rattle.table_header.proofs.Zeros.{Zeroing}
use Rattle.table_header.proofs.zero_from.Given as goal

abbrev pub invariant-loop-i : goal.invariant-loop-i
invariant-loop-i l = Zeroing l.t l.lo l.hi l.i
