use Rattle.tree_node.proofs.FreeStack.{pop_done}
use Rattle.tree_node.proofs.free.pop.Goals as goal

pub returns : goal.returns
returns c = search pop_done
