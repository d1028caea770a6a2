use Rattle.table_header.proofs.Tours.{idle_is, from_is}
use borrow.Author.Rules.{rules}
use Rattle.table_header.proofs.tour.Goals as goal

pub returns-then-flag-eq0 : goal.returns-then-flag-eq0
returns-then-flag-eq0 c = search (rules, idle_is)

pub returns : goal.returns
returns c = search (rules, from_is)
