use Rattle.table_header.proofs.Legs.{position_stored}
use borrow.Author.Rules.{rules}
use Rattle.table_header.proofs.store_position.Goals as goal

pub returns : goal.returns
returns c = search (rules, position_stored)
