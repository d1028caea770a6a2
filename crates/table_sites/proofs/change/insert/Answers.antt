use Rattle.table_sites.proofs.Changing.{insert_done}
use borrow.Author.Rules.{rules}
use Rattle.table_sites.proofs.change.insert.Goals as goal

pub returns : goal.returns
returns c = search (rules, insert_done)
