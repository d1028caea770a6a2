use Rattle.table_change.proofs.Accepting.{begin_done, stored_alone}
use borrow.Author.Rules.{rules}
use Rattle.table_change.proofs.begin.Goals as goal

pub returns : goal.returns
returns c = (search (rules, begin_done), search (rules, stored_alone))
