use Rattle.std.proofs.Common.{rules, arith}
use Rattle.tree_repair.proofs.Moving.{moved_none, moved_next, moved_len, moved_some, moved_room, moved_all}
use Rattle.tree_repair.proofs.moves.move_some.Goals as goal

pub loop-init : goal.loop-init
loop-init c = search moved_none

pub move_one-requires : goal.move_one-requires
move_one-requires c = search (rules, moved_len, moved_some, moved_room)

pub loop-preserved : goal.loop-preserved
loop-preserved c = search moved_next

pub returns : goal.returns
returns c = moved_all _ _ _ _ _ _ c.loop.invariant (omega arith) (omega arith)
