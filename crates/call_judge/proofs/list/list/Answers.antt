use Rattle.call_judge.proofs.Deciding.{list_none, leg_yes, list_done, list_off}
use borrow.Author.Rules.{rules}
use Rattle.call_judge.proofs.list.list.Goals as goal

pub returns-then-count-eq0 : goal.returns-then-count-eq0
returns-then-count-eq0 c = search (rules, list_none)

pub search-k-requires : goal.search-k-requires
search-k-requires c = (search rules, search (rules, leg_yes), search rules)

pub returns-then-leg_on_grid : goal.returns-then-leg_on_grid
returns-then-leg_on_grid c = search (rules, list_done)

pub returns : goal.returns
returns c = search (rules, list_off)
