use Rattle.tree_node.proofs.FreeStack.{give_done}
use Rattle.tree_node.proofs.free.give.Goals as goal

pub returns : goal.returns
returns c = search give_done
