use borrow.Author.Rules.{rules}
use Rattle.list_row.proofs.Ranking.{ranked_right, ranked_elsewhere}
use Rattle.list_row.proofs.rank.Goals as goal

pub returns-then-on_the_right : goal.returns-then-on_the_right
returns-then-on_the_right c = search (rules, ranked_right)

pub returns : goal.returns
returns c = search (rules, ranked_elsewhere)
