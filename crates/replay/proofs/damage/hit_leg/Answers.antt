use Rattle.replay.proofs.Faults.{leg_hit}
use borrow.Author.Rules.{rules}
use Rattle.replay.proofs.damage.hit_leg.Goals as goal

pub returns : goal.returns
returns c = search (rules, leg_hit)
