use borrow.Author.Rules.{rules}
use Rattle.tree_repair.proofs.Joining.{merge_len, merge_free, merge_len₂, merge_room, merge_done}
use Rattle.tree_repair.proofs.join.merge.Goals as goal

pub give-requires : goal.give-requires
give-requires c = (search rules, search merge_free)

pub lift-requires : goal.lift-requires
lift-requires c = (search rules, search rules, search merge_room)

pub returns : goal.returns
returns c = search merge_done
