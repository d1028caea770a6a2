use Rattle.tree_split.proofs.Sharing.{shift_room, shift_done}
use borrow.Author.Rules.{rules}
use Rattle.tree_split.proofs.deal.shift.Goals as goal

pub push-requires : goal.push-requires
push-requires c = (search rules, search shift_room)

pub returns : goal.returns
returns c = search shift_done
