use Prim.Native.Nat.{◌≤◌}
use Rattle.list_row.specs.Vertices.{CutBetween}
use Rattle.list_row.specs.Gaps.{Stands}
use Rattle.list_row.proofs.Row.fall.Given as goal

abbrev pub invariant-loop-i : goal.invariant-loop-i
invariant-loop-i l =
    let r = l.self in
    (l.end ≤ l.i) × CutBetween r.leg r.t.now r.places.now r.k l.a 0 l.i × Stands r.leg r.t.now r.places.now r.k l.first
