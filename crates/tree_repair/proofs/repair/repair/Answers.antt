use Rattle.tree_repair.proofs.Repairing.{repair_loose, repair_some, repair_room, repair_done}
use Rattle.tree_repair.proofs.repair.repair.Goals as goal

pub restore-requires : goal.restore-requires
restore-requires c = (search repair_loose, search repair_some, search repair_room)

pub returns : goal.returns
returns c = search repair_done
