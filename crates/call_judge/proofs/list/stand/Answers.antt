use Rattle.call_judge.proofs.Deciding.{stand_done, stand_off}
use borrow.Author.Rules.{rules}
use Rattle.call_judge.proofs.list.stand.Goals as goal

pub returns-then-leg_on_grid : goal.returns-then-leg_on_grid
returns-then-leg_on_grid c = search (rules, stand_done)

pub returns : goal.returns
returns c = search (rules, stand_off)
