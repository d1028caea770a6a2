use borrow.Author.Rules.{rules}
use Rattle.tree_repair.proofs.Moving.{move_room, move_done}
use Rattle.tree_repair.proofs.moves.move_one.Goals as goal

pub push-requires : goal.push-requires
push-requires c = search (rules, move_room)

pub returns : goal.returns
returns c = search move_done
