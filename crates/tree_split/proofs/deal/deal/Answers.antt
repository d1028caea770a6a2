use Rattle.std.proofs.Common.{rules}
use Rattle.tree_split.proofs.Sharing.{dealing_none, dealing_one, dealing_all}
use Rattle.tree_split.proofs.deal.deal.Goals as goal

pub loop-k-init : goal.loop-k-init
loop-k-init c = (search rules, search dealing_none)

pub loop-k-preserved : goal.loop-k-preserved
loop-k-preserved c = (search rules, search dealing_one)

pub returns : goal.returns
returns c = search dealing_all
