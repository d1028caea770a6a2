use Rattle.call_judge.proofs.Deciding.{print_along, print_unset, stored_none, stored_done}
use borrow.Author.Rules.{rules}
use Rattle.std.proofs.lemmas.Result.{err_from_is_err_and}
use Rattle.call_judge.proofs.list.print.Goals as goal

pub returns-in_err-leg : goal.returns-in_err-leg
returns-in_err-leg c =
    let p = err_from_is_err_and c.from_residual.result c.from_residual.ensures.1 in
    rw (p.1, p.2) (search (rules, print_unset, c.in_err-leg.was))

pub returns-then-count-eq0 : goal.returns-then-count-eq0
returns-then-count-eq0 c = search (rules, stored_none, print_along, c.in_ok-leg.was)

pub load-k-requires : goal.load-k-requires
load-k-requires c = (search rules, search (rules, print_along, c.in_ok-leg.was), search rules)

pub returns : goal.returns
returns c = search (rules, stored_done, print_along, c.in_ok-leg.was)
