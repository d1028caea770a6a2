-- Down from an entry to its child, and along the entries of a node.
use Rattle.std.proofs.Common.{◌+◌, ◌*◌}
use Rattle.tree_check.proofs.Passing.{Left}
use Rattle.tree_check.proofs.walk.+check_entry_check_node.Given as goal

abbrev pub decreases-check_entry : goal.decreases-check_entry
decreases-check_entry l = 2 * l.h

abbrev pub decreases-check_node : goal.decreases-check_node
decreases-check_node l = 2 * l.h + 1

abbrev pub invariant-check_node-loop-k : goal.invariant-check_node-loop-k
invariant-check_node-loop-k l = Left l.t l.h l.c l.initial.seen l.k l.seen
