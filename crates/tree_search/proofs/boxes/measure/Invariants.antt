use mathlib.Core.Path.{◌≡◌}
use Prim.Native.Nat.{◌<◌}
use lib.ListN.{length}
use Rattle.tree_node.specs.Node.{entries}
use Rattle.tree_search.specs.Searching.{Measured}
use Rattle.tree_search.proofs.boxes.measure.Given as goal

abbrev pub invariant-loop-i : goal.invariant-loop-i
invariant-loop-i l = Measured l.leg l.t l.n l.i l.corners × (l.best < length (entries l.t l.n)) × (length l.corners ≡ 8)
