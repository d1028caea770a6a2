use Rattle.tree_add.proofs.Raising.{over_room, over_room_2, over_done}
use borrow.Author.Rules.{rules}
use Rattle.tree_add.proofs.root.over.Goals as goal

pub lift-requires : goal.lift-requires
lift-requires c = (search rules, search rules, search over_room)

pub lift-requires-2 : goal.lift-requires-2
lift-requires-2 c = (search rules, search rules, over_room_2 _ _ _ c.fresh-r.ensures _ _ c.lift.ensures)

pub returns : goal.returns
returns c = over_done _ _ _ c.fresh-r.ensures _ _ c.lift.ensures _ _ c.requires.4 c.requires.5 c.lift-2.ensures
