use native.Mathlib.Omega.{arith}
use borrow.Author.Rules.{rules}
use Rattle.table_sites.proofs.Finding.{find_up, find_down, find_at}
use Rattle.table_sites.proofs.fall.Goals as goal

pub returns-then-x-n : goal.returns-then-x-n
returns-then-x-n c = find_at c.requires.0 c.loop-step.invariant.0 c.number-x.ensures (omega arith) (omega arith)

pub bisect-requires : goal.bisect-requires
bisect-requires c = (search rules, find_up c.requires.0 c.loop-step.invariant.0 c.number-x.ensures (omega arith) (omega arith))

pub loop-step-preserved : goal.loop-step-preserved
loop-step-preserved c = (find_down c.requires.0 c.loop-step.invariant.0 c.number-x.ensures (omega arith) (omega arith) (omega arith), omega arith)
