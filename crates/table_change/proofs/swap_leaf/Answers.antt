use Rattle.table_change.proofs.Relining.{swap_few, swapped}
use borrow.Author.Rules.{rules}
use Rattle.table_change.proofs.swap_leaf.Goals as goal

pub add-requires : goal.add-requires
add-requires c = (search rules, search (rules, swap_few))

pub returns : goal.returns
returns c = search (rules, swapped)
