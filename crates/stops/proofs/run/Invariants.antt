use Rattle.stops.proofs.Running.{Running}
use Rattle.stops.proofs.run.Given as goal

abbrev pub invariant-loop : goal.invariant-loop
invariant-loop g l = Running l.fn.input l.fn.report l.fn.table l.table l.work l.input l.report l.held l.counter
