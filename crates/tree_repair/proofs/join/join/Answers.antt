use Rattle.tree_repair.specs.Repair.Joined.{merged, shared}
use Rattle.tree_repair.proofs.join.join.Goals as goal

pub returns-then-many-le-MAX_ENTRIES : goal.returns-then-many-le-MAX_ENTRIES
returns-then-many-le-MAX_ENTRIES c = search merged

pub returns-else-many-le-MAX_ENTRIES : goal.returns-else-many-le-MAX_ENTRIES
returns-else-many-le-MAX_ENTRIES c = search shared
