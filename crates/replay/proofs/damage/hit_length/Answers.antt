use Rattle.replay.proofs.Faults.{length_hit_lem}
use borrow.Author.Rules.{rules}
use Rattle.replay.proofs.damage.hit_length.Goals as goal

pub returns : goal.returns
returns c = search (rules, length_hit_lem)
