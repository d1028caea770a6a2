use Prim.Native.Nat.{◌+◌}
use Rattle.grid.proofs.InStep.{InStep}
use Rattle.grid.proofs.factor.gcd_two.Given as goal

abbrev pub invariant-loop-p : goal.invariant-loop-p
invariant-loop-p l = InStep l.initial.p.x l.initial.p.y l.initial.q.x l.initial.q.y l.p.x l.p.y l.q.x l.q.y

abbrev pub decreases-loop-p : goal.decreases-loop-p
decreases-loop-p l = l.p.y + l.q.y
