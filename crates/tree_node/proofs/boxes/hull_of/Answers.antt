use Rattle.std.proofs.Common.{arith}
use Rattle.tree_node.proofs.Hulls.{hull_step, hull_end}
use Rattle.tree_node.proofs.boxes.hull_of.Goals as goal

pub loop-k-init : goal.loop-k-init
loop-k-init c = search hull_end

pub loop-k-preserved : goal.loop-k-preserved
loop-k-preserved c = hull_step _ _ c.loop-k.k _ _ _ (omega arith) (omega arith) c.entry_at.ensures c.loop-k.invariant c.grown-f.ensures
