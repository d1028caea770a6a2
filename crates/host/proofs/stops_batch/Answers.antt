use Rattle.host.proofs.Numbered.{batch_number}
use borrow.Author.Rules.{rules}
use Rattle.host.proofs.stops_batch.Goals as goal

pub returns : goal.returns
returns c = search (rules, batch_number)
