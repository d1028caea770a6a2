use Prim.Native.Nat.{◌-◌}
use Rattle.list_row.specs.Vertices.{CutBetween}
use Rattle.list_row.proofs.Row.bisect.Given as goal

abbrev pub invariant-loop-lo : goal.invariant-loop-lo
invariant-loop-lo l = let r = l.self in CutBetween r.leg r.t.now r.places.now r.k l.a l.lo l.hi

abbrev pub decreases-loop-lo : goal.decreases-loop-lo
decreases-loop-lo l = l.hi - l.lo
