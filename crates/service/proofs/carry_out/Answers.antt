use Rattle.service.proofs.Calls.{served_cleared}
use borrow.Author.Rules.{rules}
use Rattle.service.proofs.carry_out.Goals as goal

pub returns : goal.returns
returns c = search (rules, served_cleared)
