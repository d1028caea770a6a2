use Rattle.tree_check.proofs.Marking.{least_none, least_one}
use Rattle.tree_check.proofs.marks.full.Goals as goal

pub loop-m-init : goal.loop-m-init
loop-m-init c = search least_none

pub loop-m-preserved : goal.loop-m-preserved
loop-m-preserved c = search least_one
