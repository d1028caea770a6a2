use borrow.Author.Rules.{rules}
use Rattle.table_list.proofs.Ends.{entry_held, entry_says}
use Rattle.table_list.proofs.entry_shuts.Goals as goal

pub place_of-p-requires : goal.place_of-p-requires
place_of-p-requires c = (search rules, search (rules, entry_held))

pub returns : goal.returns
returns c = search (rules, entry_says)
