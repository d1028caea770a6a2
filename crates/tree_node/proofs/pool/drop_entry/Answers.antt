use Rattle.tree_node.proofs.Storing.{drop_done}
use Rattle.tree_node.proofs.pool.drop_entry.Goals as goal

pub returns : goal.returns
returns c = search drop_done
