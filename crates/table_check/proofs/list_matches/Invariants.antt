use Rattle.table_check.proofs.Matching.{Matched}
use Rattle.table_check.proofs.list_matches.Given as goal

abbrev pub invariant-loop-i : goal.invariant-loop-i
invariant-loop-i l = Matched l.t l.places l.k l.i
