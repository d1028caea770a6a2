use Rattle.grid.proofs.InStep.{both_step}
use Rattle.grid.proofs.factor.gcd_two.Goals as goal

pub loop-p-preserved : goal.loop-p-preserved
loop-p-preserved c = both_step _ _ _ _ c.loop-p.p.x c.loop-p.p.y c.loop-p.q.x c.loop-p.q.y c.loop-p.invariant _ _ _ _ c.step-p.ensures c.step-q.ensures
