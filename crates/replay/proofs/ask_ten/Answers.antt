use Rattle.replay.proofs.Citing.{asked_ten}
use borrow.Author.Rules.{rules}
use Rattle.replay.proofs.ask_ten.Goals as goal

pub returns : goal.returns
returns c = search (rules, asked_ten)
