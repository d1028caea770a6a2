use Rattle.table_header.proofs.Legs.{leg_stored}
use borrow.Author.Rules.{rules}
use Rattle.table_header.proofs.store_leg.Goals as goal

pub returns : goal.returns
returns c = search (rules, leg_stored)
