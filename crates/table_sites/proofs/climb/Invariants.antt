use Prim.Native.Nat.{◌-◌}
use Rattle.table_sites.specs.Lines.{Narrowed}
use Rattle.table_sites.proofs.climb.Given as goal

abbrev pub invariant-loop-step : goal.invariant-loop-step
invariant-loop-step l = Narrowed l.t l.n l.lo l.to

abbrev pub decreases-loop-step : goal.decreases-loop-step
decreases-loop-step l = l.to - l.lo
