use native.Mathlib.Omega.{arith}
use Rattle.list_insert.proofs.Testing.{stays_not, stays_asks, stays_turn}
use Rattle.list_insert.proofs.stays.Goals as goal

pub returns-then-x-u : goal.returns-then-x-u
returns-then-x-u c = stays_not c.args.row.places.now c.args.row.k c.args.i c.vertex-u.ensures c.requires.vertex.0 (omega arith)

pub bends-requires : goal.bends-requires
bends-requires c = omega (arith, stays_asks c.args.row.places.now c.args.row.k c.args.i c.vertex-u.ensures c.requires.vertex.0 c.requires.vertex.1 (omega arith) c.vertex-v.ensures (omega arith) c.args.row.held)

pub returns : goal.returns
returns c = stays_turn c.args.row.places.now c.args.row.k c.args.i c.vertex-u.ensures c.requires.vertex.0 c.requires.vertex.1 (omega arith) c.vertex-v.ensures (omega arith) c.bends.result c.bends.ensures
