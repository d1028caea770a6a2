use native.Mathlib.Omega.{arith}
use Rattle.list_skip.proofs.Witnesses.{knows_nothing}
use Rattle.list_skip.proofs.no_edge.Goals as goal

pub returns : goal.returns
returns c = knows_nothing _ (omega arith)
