use borrow.Author.Rules.{rules}
use Rattle.stops.proofs.Reading.{kept}
use Rattle.stops.proofs.keep.Goals as goal

pub returns : goal.returns
returns c = search (rules, kept)
