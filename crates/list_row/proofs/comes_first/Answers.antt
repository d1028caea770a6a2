use borrow.Author.Rules.{rules}
use Rattle.list_row.proofs.Ranking.{first_said}
use Rattle.list_row.proofs.comes_first.Goals as goal

pub returns : goal.returns
returns c = search (rules, first_said)
