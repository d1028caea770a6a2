use Rattle.list_row.specs.Vertices.{point_at}
use Rattle.list_insert.specs.Insertion.{TakenOver}
use Rattle.list_insert.proofs.right_tangent.Given as goal

abbrev pub invariant-loop-i : goal.invariant-loop-i
invariant-loop-i l =
    let r = l.row in
    TakenOver r.leg r.t.now r.places.now r.k l.n (point_at r.leg r.t.now l.x.place) l.i
