use Rattle.std.proofs.Common.{rules}
use Rattle.tree_node.proofs.Telling.{same_told}
use Rattle.tree_check.proofs.Passing.{leaf_absent, leaf_in, leaf_other, leaf_told}
use Rattle.tree_check.proofs.walk.check_leaf.Goals as goal

pub line-requires : goal.line-requires
line-requires c = search leaf_in

pub overflow_add-k : goal.overflow_add-k
overflow_add-k c = let lt = leaf_in _ _ _ _ c.find.ensures c.in-Ok.is c.requires.array in search rules

pub mark-requires : goal.mark-requires
mark-requires c = let lt = leaf_in _ _ _ _ c.find.ensures c.in-Ok.is c.requires.array in search rules

pub returns-then-eq : goal.returns-then-eq
returns-then-eq c = let t = same_told c.args.e c.leaf_entry.result _ c.eq.ensures in search leaf_told

pub returns-in-Err : goal.returns-in-Err
returns-in-Err c = search leaf_absent

pub returns-else-eq : goal.returns-else-eq
returns-else-eq c = let t = same_told c.args.e c.leaf_entry.result _ c.eq.ensures in rw c.if-eq.false (search leaf_other)
