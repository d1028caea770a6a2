use Rattle.std.proofs.Common.{rules}
use Rattle.tree_check.proofs.Passing.{prepared_one}
use Rattle.tree_check.proofs.RootPassing.{top_high, top_far, top_few, top_met, top_told}
use Rattle.tree_check.proofs.walk.check_top.Goals as goal

pub returns-then-r-ge-MAX_LEVELS : goal.returns-then-r-ge-MAX_LEVELS
returns-then-r-ge-MAX_LEVELS c = search top_high

pub returns-then-r-ge-MAX_NODES : goal.returns-then-r-ge-MAX_NODES
returns-then-r-ge-MAX_NODES c = search top_far

pub returns-then-not-enough : goal.returns-then-not-enough
returns-then-not-enough c = search top_few

pub check_node-requires : goal.check_node-requires
check_node-requires c = (search prepared_one, search rules)

pub returns-then-mark : goal.returns-then-mark
returns-then-mark c = search top_told

pub returns-else-mark : goal.returns-else-mark
returns-else-mark c = rw c.if-mark.false (search top_met)
