use borrow.Author.Rules.{rules}
use Rattle.tree_repair.proofs.Joining.{share_some, share_fits, share_len, share_room, share_len₂, share_room₂, share_done}
use Rattle.tree_repair.proofs.join.share.Goals as goal

pub move_some-requires : goal.move_some-requires
move_some-requires c = search (rules, share_some, share_fits)

pub lift-requires : goal.lift-requires
lift-requires c = (search rules, search rules, search share_room)

pub lift-requires-2 : goal.lift-requires-2
lift-requires-2 c = (search rules, search rules, search share_room₂)

pub returns : goal.returns
returns c = search share_done
