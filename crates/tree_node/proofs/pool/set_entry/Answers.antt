use Rattle.tree_node.specs.Node.{put_entry}
use Rattle.tree_node.proofs.pool.set_entry.Goals as goal

pub returns : goal.returns
unfolding put_entry
returns c = cc
