use Rattle.list_row.specs.Vertices.{point_at}
use Rattle.list_insert.proofs.Pushing.{Dropped}
use Rattle.list_insert.proofs.place.Given as goal

abbrev pub invariant-loop-i : goal.invariant-loop-i
invariant-loop-i l = let r = l.row in Dropped r.leg r.t.now r.places.now r.k (point_at r.leg r.t.now l.x.place) l.i
