use Rattle.table_change.proofs.Relining.{line_few, whole_array, at_inside, changed_rooted, move_there, move_few, moved}
use borrow.Author.Rules.{rules}
use Rattle.table_change.proofs.relocate.Goals as goal

pub line-requires : goal.line-requires
line-requires c = search (rules, line_few)

pub place-requires : goal.place-requires
place-requires c = (search (rules, whole_array), search (rules, at_inside))

pub swap_leaf-requires : goal.swap_leaf-requires
swap_leaf-requires c = (search (rules, changed_rooted), search (rules, move_there), search (rules, move_few))

pub returns : goal.returns
returns c = search (rules, moved)
