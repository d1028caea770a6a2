use Rattle.table_header.proofs.Legs.{unset_is, along_is}
use borrow.Author.Rules.{rules}
use Rattle.table_header.proofs.leg.Goals as goal

pub returns-then-flag-eq0 : goal.returns-then-flag-eq0
returns-then-flag-eq0 c = search (rules, unset_is)

pub returns : goal.returns
returns c = search (rules, along_is)
