-- Down from a node to its entry's child, and along the entries of a node.
use Rattle.std.proofs.Common.{◌+◌, ◌*◌, ◌-◌}
use Rattle.tree_remove.proofs.take.+take_take_child.Given as goal

abbrev pub decreases-take : goal.decreases-take
decreases-take l = 22 * l.h + (10 - l.k)

abbrev pub decreases-take_child : goal.decreases-take_child
decreases-take_child l = 22 * l.h
