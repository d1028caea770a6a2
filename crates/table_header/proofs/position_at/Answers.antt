use Rattle.table_header.proofs.Legs.{position_is}
use borrow.Author.Rules.{rules}
use Rattle.table_header.proofs.position_at.Goals as goal

pub returns : goal.returns
returns c = search (rules, position_is)
