use Rattle.tree_node.proofs.Reading.{below_eight, place_fits}
use Rattle.tree_node.proofs.Storing.{put_done}
use borrow.Author.Rules.{rules}
use Rattle.tree_node.proofs.pool.put.Goals as goal

pub entry_start-requires : goal.entry_start-requires
entry_start-requires c = (search rules, search below_eight)

pub set_entry-requires : goal.set_entry-requires
set_entry-requires c = search place_fits

pub returns : goal.returns
returns c = search put_done
