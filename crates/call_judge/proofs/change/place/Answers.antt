use Rattle.call_judge.proofs.Deciding.{good_number, good_grid, good_move, bad_move}
use borrow.Author.Rules.{rules}
use Rattle.std.proofs.lemmas.Result.{err_from_is_err_and}
use Rattle.call_judge.proofs.change.place.Goals as goal

pub place_site-requires : goal.place_site-requires
place_site-requires c = (search rules, search (rules, good_number, c.in_ok-site.was), search (rules, good_grid, c.in_ok-site.was))

pub returns-in_err-site : goal.returns-in_err-site
returns-in_err-site c =
    let p = err_from_is_err_and c.from_residual.result c.from_residual.ensures.1 in
    rw (p.1, p.2) (search (rules, bad_move, c.in_err-site.was))

pub returns : goal.returns
returns c = search (rules, good_move, c.in_ok-site.was)
