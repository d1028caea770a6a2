use native.Mathlib.Omega.{arith}
use Rattle.table_sites.proofs.Changing.{place_done}
use Rattle.table_sites.proofs.change.place.Goals as goal

pub returns : goal.returns
returns c = place_done c.requires.0 c.requires.1 (omega arith) c.put_position.ensures
