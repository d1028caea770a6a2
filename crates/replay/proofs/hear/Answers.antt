use Rattle.replay.proofs.Citing.{heard}
use borrow.Author.Rules.{rules}
use Rattle.replay.proofs.hear.Goals as goal

pub returns : goal.returns
returns g c = search (rules, heard)
