use borrow.Author.Rules.{rules}
use Rattle.list_row.proofs.Bisection.{cut_up, cut_down, cut_found}
use Rattle.list_row.proofs.Row.bisect.Goals as goal

pub loop-lo-preserved-then-u-a : goal.loop-lo-preserved-then-u-a
loop-lo-preserved-then-u-a c = search (rules, cut_up)

pub loop-lo-preserved : goal.loop-lo-preserved
loop-lo-preserved c = search (rules, cut_down)

pub returns : goal.returns
returns c = search (rules, cut_found)
