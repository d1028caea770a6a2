use Rattle.replay.proofs.Citing.{closed}
use borrow.Author.Rules.{rules}
use Rattle.replay.proofs.go_on.Goals as goal

pub returns : goal.returns
returns c = search (rules, closed)
