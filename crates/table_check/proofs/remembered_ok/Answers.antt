use Rattle.table_check.proofs.Deciding.{unnamed_ok, named_says}
use borrow.Author.Rules.{rules}
use Rattle.table_check.proofs.remembered_ok.Goals as goal

pub returns-in-None : goal.returns-in-None
returns-in-None c = search (rules, unnamed_ok)

pub returns-in-Some : goal.returns-in-Some
returns-in-Some c = search (rules, named_says)
