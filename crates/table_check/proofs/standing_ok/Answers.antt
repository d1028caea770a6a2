use Rattle.table_check.proofs.Deciding.{unset_says, along_off, along_grid, along_says}
use borrow.Author.Rules.{rules}
use Rattle.table_check.proofs.standing_ok.Goals as goal

pub search-k-requires : goal.search-k-requires
search-k-requires c = (search rules, search (rules, along_grid), search rules)

pub returns-then-leg_on_grid : goal.returns-then-leg_on_grid
returns-then-leg_on_grid c = search (rules, along_says)

pub returns-in-None : goal.returns-in-None
returns-in-None c = search (rules, unset_says)

pub returns-else-leg_on_grid : goal.returns-else-leg_on_grid
returns-else-leg_on_grid c = search (rules, along_off)
