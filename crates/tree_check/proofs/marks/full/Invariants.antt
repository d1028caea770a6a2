use Rattle.tree_check.proofs.Marking.{Least}
use Rattle.tree_check.proofs.marks.full.Given as goal

abbrev pub invariant-loop-m : goal.invariant-loop-m
invariant-loop-m l = Least l.seen l.m l.least
