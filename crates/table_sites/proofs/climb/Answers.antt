use native.Mathlib.Omega.{arith}
use borrow.Author.Rules.{rules}
use Rattle.table_sites.proofs.Finding.{find_up, find_down, find_at}
use Rattle.table_sites.proofs.climb.Goals as goal

pub returns-then-m-n : goal.returns-then-m-n
returns-then-m-n c = find_at c.requires.0 c.loop-step.invariant c.number-m.ensures (omega arith) (omega arith)

pub bisect-requires : goal.bisect-requires
bisect-requires c = (search rules, find_down c.requires.0 c.loop-step.invariant c.number-m.ensures (omega arith) (omega arith) (omega arith))

pub loop-step-preserved : goal.loop-step-preserved
loop-step-preserved c = find_up c.requires.0 c.loop-step.invariant c.number-m.ensures (omega arith) (omega arith)
