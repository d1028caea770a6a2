use Rattle.call_judge.proofs.Touring.{corner_idle, corner_runs, onward_off, onward_none, onward_leg, onward_grid, onward_some}
use borrow.Author.Rules.{rules}
use Rattle.std.proofs.lemmas.Result.{err_from_is_err_and}
use borrow.Author.Tests.{not-true, not-false}
use Rattle.call_judge.proofs.tour.corner.Goals as goal

pub returns-in_err-tour : goal.returns-in_err-tour
returns-in_err-tour c =
    let p = err_from_is_err_and c.from_residual.result c.from_residual.ensures.1 in
    rw (p.1, p.2) (search (rules, corner_idle, c.in_err-tour.was))

pub returns-then-not-on_grid : goal.returns-then-not-on_grid
returns-then-not-on_grid c = search (rules, not-true, onward_off, corner_runs, c.in_ok-tour.was)

pub returns-then-count-eq0 : goal.returns-then-count-eq0
returns-then-count-eq0 c = search (rules, not-false, onward_none, corner_runs, c.in_ok-tour.was)

pub search-k-requires : goal.search-k-requires
search-k-requires c = (search rules, search (rules, not-false, onward_leg, corner_runs, c.in_ok-tour.was), search rules)

pub invariant_of-row : goal.invariant_of-row
invariant_of-row c = record { held = search rules; on_grid = search (rules, not-false, onward_leg, corner_runs, c.in_ok-tour.was) }

pub shown-requires : goal.shown-requires
shown-requires c = record { sound = (search rules, search (rules, corner_runs, c.in_ok-tour.was), search (rules, not-false, onward_grid, corner_runs, c.in_ok-tour.was)); lists_table = (search rules, search (rules, onward_some)) }
