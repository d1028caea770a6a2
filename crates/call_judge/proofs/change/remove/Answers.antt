use Rattle.call_judge.proofs.Deciding.{remove_zero, at_few, remove_done, remove_absent}
use borrow.Author.Rules.{rules}
use Rattle.call_judge.proofs.change.remove.Goals as goal

pub returns-then-n-eq0 : goal.returns-then-n-eq0
returns-then-n-eq0 c = search (rules, remove_zero)

pub narrow-requires : goal.narrow-requires
narrow-requires c = search (rules, at_few)

pub returns-in-Ok : goal.returns-in-Ok
returns-in-Ok c = search (rules, remove_done)

pub returns-in-Err : goal.returns-in-Err
returns-in-Err c = search (rules, remove_absent)
