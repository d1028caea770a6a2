use Rattle.table_change.proofs.Relining.{line_few, whole_array, at_inside, changed_rooted, shrink_there, shrunk}
use borrow.Author.Rules.{rules}
use Rattle.table_change.proofs.shrink.Goals as goal

pub line-requires : goal.line-requires
line-requires c = search (rules, line_few)

pub delete-requires : goal.delete-requires
delete-requires c = (search (rules, whole_array), search (rules, at_inside))

pub remove-requires : goal.remove-requires
remove-requires c = (search (rules, changed_rooted), search (rules, shrink_there))

pub returns : goal.returns
returns c = search (rules, shrunk)
