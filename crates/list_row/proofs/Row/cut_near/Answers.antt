use native.Mathlib.Omega.{arith}
use Rattle.list_row.proofs.Bisection.{pair_found}
use Rattle.list_row.proofs.Row.cut_near.Goals as goal

pub returns-then-u-a : goal.returns-then-u-a
returns-then-u-a c =
    pair_found c.args.self.held (omega arith) c.saturating_sub-j.ensures c.vertex-v.ensures c.vertex-u.ensures (omega arith) (omega arith)
