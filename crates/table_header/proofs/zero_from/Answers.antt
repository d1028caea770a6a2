use borrow.Author.Rules.{rules}
use Prim.Native.Nat.{◌-◌}
use Rattle.table_header.proofs.Zeros.{zeroing_none, zeroing_one, zeroing_all, not_zero}
use Rattle.table_header.proofs.zero_from.Goals as goal

pub loop-i-init : goal.loop-i-init
loop-i-init c = search (rules, zeroing_none)

pub returns-then-t-i-ne0 : goal.returns-then-t-i-ne0
returns-then-t-i-ne0 c = search (rules, not_zero)

pub loop-i-preserved : goal.loop-i-preserved
loop-i-preserved c = search (rules, zeroing_one)

pub returns : goal.returns
returns c = search (rules, zeroing_all)
