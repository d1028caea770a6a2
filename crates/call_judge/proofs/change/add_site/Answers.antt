use Rattle.call_judge.proofs.Deciding.{add_full, absent_few, add_held_lem, add_done}
use borrow.Author.Rules.{rules}
use Rattle.call_judge.proofs.change.add_site.Goals as goal

pub returns-then-k-eq-MAX_SITES : goal.returns-then-k-eq-MAX_SITES
returns-then-k-eq-MAX_SITES c = search (rules, add_full)

pub narrow-requires : goal.narrow-requires
narrow-requires c = search (rules, absent_few)

pub returns-in-Ok : goal.returns-in-Ok
returns-in-Ok c = search (rules, add_held_lem)

pub returns-else-k-eq-MAX_SITES : goal.returns-else-k-eq-MAX_SITES
returns-else-k-eq-MAX_SITES c = search (rules, add_done)
