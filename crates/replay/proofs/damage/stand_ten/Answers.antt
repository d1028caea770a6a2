use Rattle.replay.proofs.Faults.{stood}
use borrow.Author.Rules.{rules}
use Rattle.replay.proofs.damage.stand_ten.Goals as goal

pub returns : goal.returns
returns c = search (rules, stood)
