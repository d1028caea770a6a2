use Rattle.table_sites.specs.Lines.{Narrowed}
use Prim.Native.Nat.{◌-◌}
use Rattle.table_sites.proofs.bisect.Given as goal

abbrev pub invariant-loop-lo : goal.invariant-loop-lo
invariant-loop-lo l = Narrowed l.t l.n l.lo l.hi

abbrev pub decreases-loop-lo : goal.decreases-loop-lo
decreases-loop-lo l = l.hi - l.lo
