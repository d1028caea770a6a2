use Rattle.replay.proofs.Citing.{opened}
use borrow.Author.Rules.{rules}
use Rattle.replay.proofs.begin.Goals as goal

pub returns : goal.returns
returns c = search (rules, opened)
