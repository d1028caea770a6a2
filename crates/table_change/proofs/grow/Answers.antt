use Rattle.table_change.proofs.Relining.{whole_array, whole_room, absent_inside, changed_rooted, grow_few, grown}
use borrow.Author.Rules.{rules}
use Rattle.table_change.proofs.grow.Goals as goal

pub insert-requires : goal.insert-requires
insert-requires c = (search (rules, whole_array), search (rules, whole_room), search (rules, absent_inside))

pub add-requires : goal.add-requires
add-requires c = (search (rules, changed_rooted), search (rules, grow_few))

pub returns : goal.returns
returns c = search (rules, grown)
