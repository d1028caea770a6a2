use Rattle.call_judge.proofs.Deciding.{good_number, good_grid, good_add, bad_add}
use borrow.Author.Rules.{rules}
use Rattle.std.proofs.lemmas.Result.{err_from_is_err_and}
use Rattle.call_judge.proofs.change.add.Goals as goal

pub add_site-requires : goal.add_site-requires
add_site-requires c = (search rules, search (rules, good_number, c.in_ok-site.was), search (rules, good_grid, c.in_ok-site.was))

pub returns-in_err-site : goal.returns-in_err-site
returns-in_err-site c =
    let p = err_from_is_err_and c.from_residual.result c.from_residual.ensures.1 in
    rw (p.1, p.2) (search (rules, bad_add, c.in_err-site.was))

pub returns : goal.returns
returns c = search (rules, good_add, c.in_ok-site.was)
