use Rattle.tree_node.proofs.FreeStack.{fresh_id, fresh_done}
use borrow.Author.Rules.{rules}
use Rattle.tree_node.proofs.free.fresh.Goals as goal

pub clear-requires : goal.clear-requires
clear-requires c = search fresh_id

pub returns : goal.returns
returns c = search fresh_done
