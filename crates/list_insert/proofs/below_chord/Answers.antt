use native.Mathlib.Omega.{arith}
use Rattle.list_insert.proofs.Testing.{chord_turn}
use Rattle.list_insert.proofs.below_chord.Goals as goal

pub returns : goal.returns
returns c = chord_turn c.args.row.places.now c.args.row.k c.args.j c.args.i c.vertex-s.ensures c.vertex-u.ensures c.requires.vertex.0 (omega arith) (omega arith) c.bends.result c.bends.ensures
