use Rattle.list_probe.proofs.Testing.{Tested}
use Rattle.list_probe.proofs.orderly.Given as goal

abbrev pub invariant-loop-i : goal.invariant-loop-i
invariant-loop-i l = Tested l.t l.n l.last l.i
