use Rattle.table_sites.proofs.Stores.{position_put}
use borrow.Author.Rules.{rules}
use Rattle.table_sites.proofs.change.put_position.Goals as goal

pub returns : goal.returns
returns c = search (rules, position_put)
