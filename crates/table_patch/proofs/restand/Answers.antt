use Rattle.table_patch.proofs.Restanding.{along_leg, restood_none, restood_list}
use borrow.Author.Rules.{rules}
use Rattle.table_patch.proofs.restand.Goals as goal

pub search-k-requires : goal.search-k-requires
search-k-requires c = (search rules, search (rules, along_leg), search rules)

pub returns-in-None : goal.returns-in-None
returns-in-None c = search (rules, restood_none)

pub returns-in-Some : goal.returns-in-Some
returns-in-Some c = search (rules, restood_list)
