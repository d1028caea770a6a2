use Rattle.table_change.proofs.Accepting.{follow_done, stored_alone}
use borrow.Author.Rules.{rules}
use Rattle.table_change.proofs.follow.Goals as goal

pub returns : goal.returns
returns c = (search (rules, follow_done), search (rules, stored_alone))
