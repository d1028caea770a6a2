use Rattle.tree_repair.proofs.Repairing.{lift_done}
use Rattle.tree_repair.proofs.repair.restore.Goals as goal

pub returns-else-count-lt-MIN_ENTRIES : goal.returns-else-count-lt-MIN_ENTRIES
returns-else-count-lt-MIN_ENTRIES c = let q = rw c.from-c.ensures at c.count.ensures in let h = rw c.from-c.ensures at c.hull_of-g.ensures in search lift_done
