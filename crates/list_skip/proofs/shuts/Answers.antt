use Rattle.list_skip.proofs.Witnesses.{by_left, by_edge}
use borrow.Author.Rules.{rules}
use Rattle.list_skip.proofs.shuts.Goals as goal

pub returns-then-lower : goal.returns-then-lower
returns-then-lower c = search (rules, by_left)

pub returns-else-lower : goal.returns-else-lower
returns-else-lower c = search (rules, by_edge)
