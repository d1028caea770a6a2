use Rattle.table_sites.proofs.Finding.{find_begun, guessed_at}
use native.Mathlib.Omega.{arith}
use borrow.Author.Rules.{rules}
use Rattle.table_sites.proofs.find_near.Goals as goal

pub returns-then-m-n : goal.returns-then-m-n
returns-then-m-n c = guessed_at _ _ _ _ _ c.requires c.count-c.ensures.0 (omega arith) c.number-m.ensures (omega arith)

pub bisect-requires : goal.bisect-requires
bisect-requires c = (search rules, search (rules, find_begun))
