use native.Mathlib.Omega.{arith}
use Rattle.table_sites.proofs.Finding.{find_up, find_down, find_at, find_absent}
use borrow.Author.Rules.{rules}
use Rattle.table_sites.proofs.bisect.Goals as goal

pub returns-then-m-n : goal.returns-then-m-n
returns-then-m-n c = find_at c.requires.0 c.loop-lo.invariant c.number-m.ensures (omega arith) (omega arith)

pub loop-lo-preserved-then-m-n-2 : goal.loop-lo-preserved-then-m-n-2
loop-lo-preserved-then-m-n-2 c = find_up c.requires.0 c.loop-lo.invariant c.number-m.ensures (omega arith) (omega arith)

pub loop-lo-preserved : goal.loop-lo-preserved
loop-lo-preserved c =
    find_down c.requires.0 c.loop-lo.invariant c.number-m.ensures (omega arith) (omega arith)
    (omega arith)

pub returns : goal.returns
returns c = search (rules, find_absent)
