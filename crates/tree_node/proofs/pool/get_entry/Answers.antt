use Rattle.tree_node.specs.Node.{entry_at}
use Rattle.tree_node.proofs.Reading.{words_read}
use Rattle.tree_node.proofs.pool.get_entry.Goals as goal

pub returns : goal.returns
unfolding entry_at
returns c = search words_read
