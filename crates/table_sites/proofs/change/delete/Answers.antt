use Rattle.table_sites.proofs.Changing.{delete_done}
use borrow.Author.Rules.{rules}
use Rattle.table_sites.proofs.change.delete.Goals as goal

pub returns : goal.returns
returns c = search (rules, delete_done)
