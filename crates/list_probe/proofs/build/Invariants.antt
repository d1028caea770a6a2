use Rattle.list_probe.proofs.Building.{Building}
use Rattle.list_probe.proofs.build.Given as goal

abbrev pub invariant-loop-i : goal.invariant-loop-i
invariant-loop-i l = Building l.leg l.t l.from l.n l.initial.work l.work l.k l.i
