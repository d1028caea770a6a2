use Rattle.service.proofs.Calls.{laid_wrong, laid_right}
use borrow.Author.Rules.{rules}
use Rattle.service.proofs.lay_out.Goals as goal

pub returns-in_default : goal.returns-in_default
returns-in_default c = search (rules, laid_wrong)

pub returns : goal.returns
returns c = search (rules, laid_right)
