use Rattle.replay.proofs.Faults.{siteless_hit}
use borrow.Author.Rules.{rules}
use Rattle.replay.proofs.damage.hit_siteless.Goals as goal

pub returns : goal.returns
returns c = search (rules, siteless_hit)
