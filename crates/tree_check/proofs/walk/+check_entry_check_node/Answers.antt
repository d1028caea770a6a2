use Rattle.std.proofs.Common.{rules, arith}
use Rattle.tree_check.proofs.Passing.{left_all, left_none, left_no, left_next, entry_leaf, entry_far, entry_met, entry_unfit, entry_told, prepared_one}
use Rattle.tree_check.proofs.walk.+check_entry_check_node.Goals as goal

pub check_entry-returns-then-h-eq0 : goal.check_entry-returns-then-h-eq0
check_entry-returns-then-h-eq0 t c = search entry_leaf

pub check_entry-returns-then-c-ge-MAX_NODES : goal.check_entry-returns-then-c-ge-MAX_NODES
check_entry-returns-then-c-ge-MAX_NODES t c = let h = rw c.from-c.ensures at c.if-c-ge-MAX_NODES.true in search entry_far

pub check_entry-check_node-requires : goal.check_entry-check_node-requires
check_entry-check_node-requires t c = (omega arith, (search prepared_one, search rules))

pub check_entry-returns-then-fits : goal.check_entry-returns-then-fits
check_entry-returns-then-fits t c =
    let lt = rw c.from-c.ensures at c.if-c-ge-MAX_NODES.false in
    let m = rw c.from-c.ensures at c.mark.ensures in
    let n = rw c.from-c.ensures at c.check_node.ensures in
    search entry_told

pub check_entry-returns-else-fits : goal.check_entry-returns-else-fits
check_entry-returns-else-fits t c = rw c.if-fits.false (search entry_unfit)

pub check_entry-returns-then-not-mark : goal.check_entry-returns-then-not-mark
check_entry-returns-then-not-mark t c =
    let lt = rw c.from-c.ensures at c.if-c-ge-MAX_NODES.false in
    let m = rw c.from-c.ensures at c.mark.ensures in
    search entry_met

pub check_node-loop-k-preserved : goal.check_node-loop-k-preserved
check_node-loop-k-preserved t c = search left_next

pub check_node-returns-then-not-check_entry : goal.check_node-returns-then-not-check_entry
check_node-returns-then-not-check_entry t c = search left_no

pub check_node-returns : goal.check_node-returns
check_node-returns t c = search left_none

pub check_node-loop-k-init : goal.check_node-loop-k-init
check_node-loop-k-init t c = search left_all
