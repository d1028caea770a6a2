use Rattle.host.proofs.Numbered.{laid_number}
use borrow.Author.Rules.{rules}
use Rattle.host.proofs.stops_lay_out.Goals as goal

pub returns : goal.returns
returns c = search (rules, laid_number)
