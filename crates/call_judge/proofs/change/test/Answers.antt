use Rattle.call_judge.proofs.Deciding.{test_not_finite, test_good, test_off}
use borrow.Author.Rules.{rules}
use Rattle.std.proofs.lemmas.Result.{err_from_is_err_and}
use Rattle.call_judge.proofs.change.test.Goals as goal

pub returns-in_err-position : goal.returns-in_err-position
returns-in_err-position c =
    let p = err_from_is_err_and c.from_residual.result c.from_residual.ensures.1 in
    rw (p.1, p.2) (search (rules, test_not_finite, c.in_err-position.was))

pub returns-then-on_grid : goal.returns-then-on_grid
returns-then-on_grid c = search (rules, test_good, c.in_ok-position.was)

pub returns : goal.returns
returns c = search (rules, test_off, c.in_ok-position.was)
