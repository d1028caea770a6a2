use borrow.Author.Rules.{rules}
use Rattle.table_empty.proofs.Laying.{stacking_none, stacking_one, stacking_all}
use Rattle.table_empty.proofs.stack_all.Goals as goal

pub loop-k-init : goal.loop-k-init
loop-k-init c = search (rules, stacking_none)

pub loop-k-preserved : goal.loop-k-preserved
loop-k-preserved c = search (rules, stacking_one)

pub returns : goal.returns
returns c = search (rules, stacking_all)
