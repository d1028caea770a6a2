use Rattle.table_empty.proofs.Laying.{laid}
use borrow.Author.Rules.{rules}
use Rattle.table_empty.proofs.lay.Goals as goal

pub returns : goal.returns
returns c = search (rules, laid)
