use borrow.Author.Rules.{rules}
use native.Mathlib.Omega.{arith}
use Rattle.list_row.proofs.Bisection.{climb_found}
use Rattle.list_row.proofs.Row.climb.Goals as goal

pub returns-then-a-v : goal.returns-then-a-v
returns-then-a-v c = climb_found c.loop-i.invariant.0 (omega arith) c.loop-i.invariant.1 c.vertex-v.ensures (search rules) c.args.self.held
