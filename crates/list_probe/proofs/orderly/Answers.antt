use borrow.Author.Rules.{rules}
use Rattle.list_probe.proofs.Testing.{tested_none, not_rising, not_on_grid, tested_one, tested_all}
use Rattle.list_probe.proofs.orderly.Goals as goal

pub loop-i-init : goal.loop-i-init
loop-i-init c = search tested_none

pub returns-then-site-last : goal.returns-then-site-last
returns-then-site-last c = search (rules, not_rising)

pub loop-i-preserved : goal.loop-i-preserved
loop-i-preserved c = search (rules, tested_one)

pub returns-then-not-on_grid : goal.returns-then-not-on_grid
returns-then-not-on_grid c = search (rules, not_on_grid)

pub returns : goal.returns
returns c = search (rules, tested_all)
