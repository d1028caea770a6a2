use Rattle.std.proofs.Common.{arith, subst}
use Rattle.tree_remove.specs.Take.{NextTold}
use Rattle.tree_remove.proofs.Finding.{denied_one}
use Rattle.tree_remove.proofs.take.next_where.Goals as goal

pub returns-then-asked : goal.returns-then-asked
unfolding NextTold
returns-then-asked g c = (c.loop-i.invariant, omega arith, subst (λ x. goal.F-post g c.args.asked x _) c.entry_at.ensures c.if-asked.ensures)

pub loop-i-preserved : goal.loop-i-preserved
loop-i-preserved g c = denied_one _ _ _ _ c.loop-i.invariant (omega arith) (subst (λ x. goal.F-post g c.args.asked x _) c.entry_at.ensures c.if-asked.ensures)

pub returns : goal.returns
unfolding NextTold
returns g c = let s = c.loop-i.invariant in record { least = omega (arith, s.least, s.most); most = omega arith; none = λ j lo hi. s.none j lo (omega arith) }
