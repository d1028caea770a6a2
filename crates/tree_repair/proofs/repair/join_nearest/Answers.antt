use Rattle.tree_repair.proofs.Repairing.{nearest_pair, nearest_done}
use Rattle.tree_repair.proofs.repair.join_nearest.Goals as goal

pub join-requires : goal.join-requires
join-requires c = rw c.from.ensures (search nearest_pair)

pub returns : goal.returns
returns c = let j = rw c.from.ensures at c.join.ensures in search nearest_done
