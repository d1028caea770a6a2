use Rattle.call_judge.proofs.Deciding.{at_few, move_done, move_absent_lem}
use borrow.Author.Rules.{rules}
use Rattle.call_judge.proofs.change.place_site.Goals as goal

pub narrow-requires : goal.narrow-requires
narrow-requires c = search (rules, at_few)

pub returns-in-Ok : goal.returns-in-Ok
returns-in-Ok c = search (rules, move_done)

pub returns-in-Err : goal.returns-in-Err
returns-in-Err c = search (rules, move_absent_lem)
