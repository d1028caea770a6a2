use Rattle.tree_node.proofs.Storing.{clear_done}
use Rattle.tree_node.proofs.pool.clear.Goals as goal

pub returns : goal.returns
returns c = search clear_done
