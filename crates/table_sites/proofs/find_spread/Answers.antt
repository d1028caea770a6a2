use native.Mathlib.Omega.{arith}
use borrow.Author.Rules.{rules}
use Rattle.table_sites.proofs.Finding.{find_up, find_down, find_at, find_absent}
use Rattle.table_sites.proofs.find_spread.Goals as goal

pub returns-then-lo-hi : goal.returns-then-lo-hi
returns-then-lo-hi c = find_absent c.requires.1 (omega arith)

pub returns-then-x-n : goal.returns-then-x-n
returns-then-x-n c = find_at c.requires.0 c.requires.1 c.number-x.ensures (omega arith) (omega arith)

pub climb-requires : goal.climb-requires
climb-requires c = (search rules, find_up c.requires.0 c.requires.1 c.number-x.ensures (omega arith) (omega arith))

pub fall-requires : goal.fall-requires
fall-requires c = (search rules, find_down c.requires.0 c.requires.1 c.number-x.ensures (omega arith) (omega arith) (omega arith))
