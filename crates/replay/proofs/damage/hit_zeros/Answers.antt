use Rattle.replay.proofs.Faults.{zeros_hit}
use borrow.Author.Rules.{rules}
use Rattle.replay.proofs.damage.hit_zeros.Goals as goal

pub returns : goal.returns
returns c = search (rules, zeros_hit)
