use borrow.Author.Rules.{rules}
use Rattle.stops.proofs.Running.{running_first, running_spent, running_next, running_last}
use Rattle.stops.proofs.run.Goals as goal

pub loop-init : goal.loop-init
loop-init g c = search (rules, running_first)

pub returns-in_default : goal.returns-in_default
returns-in_default g c = search (rules, running_last, c.in_default.not-More)

pub loop-preserved : goal.loop-preserved
loop-preserved g c = search (rules, running_next)

pub returns : goal.returns
returns g c = search (rules, running_spent)
