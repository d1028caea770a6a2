use Rattle.replay.proofs.Citing.{replayed}
use borrow.Author.Rules.{rules}
use Rattle.replay.proofs.replay.Goals as goal

pub returns : goal.returns
returns c = search (rules, replayed)
