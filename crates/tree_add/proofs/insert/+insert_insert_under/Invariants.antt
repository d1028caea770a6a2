-- From a node to its entry, and from an entry down to its child.
use Rattle.std.proofs.Common.{◌+◌, ◌*◌}
use Rattle.tree_add.proofs.insert.+insert_insert_under.Given as goal

abbrev pub decreases-insert : goal.decreases-insert
decreases-insert l = 2 * l.h + 1

abbrev pub decreases-insert_under : goal.decreases-insert_under
decreases-insert_under l = 2 * l.h
