use borrow.Author.Rules.{rules}
use Rattle.tree_node.proofs.Reading.{below_eight, place_fits, entry_read}
use Rattle.tree_node.proofs.pool.entry_at.Goals as goal

pub entry_start-requires : goal.entry_start-requires
entry_start-requires c = (search rules, search below_eight)

pub get_entry-requires : goal.get_entry-requires
get_entry-requires c = search place_fits

pub returns : goal.returns
returns c = search entry_read
