use borrow.Author.Rules.{rules}
use Rattle.stops.proofs.Following.{after_read_lem}
use Rattle.stops.proofs.join.Goals as goal

pub returns : goal.returns
returns g c = search (rules, after_read_lem)
