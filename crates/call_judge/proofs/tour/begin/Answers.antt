use Rattle.call_judge.proofs.Touring.{begin_off, begin_done}
use borrow.Author.Rules.{rules}
use Rattle.call_judge.proofs.tour.begin.Goals as goal

pub returns-then-on_grid : goal.returns-then-on_grid
returns-then-on_grid c = search (rules, begin_done)

pub returns : goal.returns
returns c = search (rules, begin_off)
