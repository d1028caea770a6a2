use Rattle.list_row.specs.Vertices.{CutBetween}
use Rattle.list_row.specs.Gaps.{Stands}
use Rattle.list_row.proofs.Row.climb.Given as goal

abbrev pub invariant-loop-i : goal.invariant-loop-i
invariant-loop-i l =
    let r = l.self in
    CutBetween r.leg r.t.now r.places.now r.k l.a l.i r.k × Stands r.leg r.t.now r.places.now r.k l.last
