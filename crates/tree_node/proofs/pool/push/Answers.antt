use Rattle.tree_node.proofs.Storing.{push_done}
use Rattle.tree_node.proofs.pool.push.Goals as goal

pub returns : goal.returns
returns c = search push_done
