use Rattle.table_standing.proofs.Stored.{list_stored}
use borrow.Author.Rules.{rules}
use Rattle.table_standing.proofs.store_list.Goals as goal

pub returns : goal.returns
returns c = search (rules, list_stored)
