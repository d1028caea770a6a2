-- Down from an entry to its child, and along the entries of a node.
use Rattle.std.proofs.Common.{◌+◌, ◌*◌, ◌-◌}
use Rattle.tree_search.proofs.Reading.{Left}
use Rattle.tree_search.proofs.descent.+search_entry_search_node.Given as goal

abbrev pub decreases-search_entry : goal.decreases-search_entry
decreases-search_entry l = 2 * l.h

abbrev pub decreases-search_node : goal.decreases-search_node
decreases-search_node l = 2 * l.h + 1

abbrev pub invariant-search_node-loop : goal.invariant-search_node-loop
invariant-search_node-loop l = Left l.leg l.t l.initial.work l.k l.h l.n l.i (l.all - l.counter) l.work l.kept l.known
