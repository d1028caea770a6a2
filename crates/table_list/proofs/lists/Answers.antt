use borrow.Author.Rules.{rules}
use Rattle.table_list.proofs.Naming.{unnamed_none, unnamed_one, unnamed_all, named}
use Rattle.table_list.proofs.lists.Goals as goal

pub loop-i-init : goal.loop-i-init
loop-i-init c = search (rules, unnamed_none)

pub returns-then-number-n : goal.returns-then-number-n
returns-then-number-n c = search (rules, named)

pub loop-i-preserved : goal.loop-i-preserved
loop-i-preserved c = search (rules, unnamed_one)

pub returns : goal.returns
returns c = search (rules, unnamed_all)
