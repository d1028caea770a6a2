use borrow.Author.Rules.{rules}
use mathlib.Core.Path.{◌≡◌}
use Prim.Native.Nat.{◌<◌}
use native.Mathlib.Omega.{arith}
use lib.ListN.{length}
use Rattle.tree_node.specs.Node.{entries}
use Rattle.tree_search.proofs.Corners.{measured_next}
use Rattle.tree_search.proofs.boxes.measure.Goals as goal
use Rattle.tree_search.proofs.boxes.measure.Goals.{then-far-least, else-far-least}

pub loop-i-preserved : goal.loop-i-preserved
loop-i-preserved c =
    let d : c.if-far-least.best < length (entries c.args.t.now c.args.n) =
    elim c.if-far-least.branch [ then-far-least e ↦ omega arith | else-far-least e ↦ omega arith ] in
    (measured_next c.loop-i.invariant.0 (omega arith) c.corner_at-corner.ensures, d, search rules)

pub returns : goal.returns
returns c =
    let e : c.loop-i.i ≡ length (entries c.args.t.now c.args.n) = omega arith in
    record { first = search rules; measured = rw e at c.loop-i.invariant.0 }
