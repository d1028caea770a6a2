use Rattle.tree_check.proofs.Stack.{tested_none, tested_one, tested_far, tested_met, tested_all}
use Rattle.tree_check.proofs.free.check_free.Goals as goal
use Rattle.tree_check.proofs.free.check_free.Goals.{then-c-ge-MAX_NODES-via-then-c-ge-MAX_NODES, then-c-ge-MAX_NODES-via-else-c-ge-MAX_NODES+then-not-mark}

pub loop-k-init : goal.loop-k-init
loop-k-init c = search tested_none

pub returns-then-c-ge-MAX_NODES : goal.returns-then-c-ge-MAX_NODES
returns-then-c-ge-MAX_NODES c =
    elim c.then-c-ge-MAX_NODES.branch [
      | then-c-ge-MAX_NODES-via-then-c-ge-MAX_NODES w ↦ tested_far _ _ _ _ _ _ c.loop-k.invariant c.loop-k-test.true c.id_at-c.ensures.0 c.free_count-n.ensures.0 w.if-c-ge-MAX_NODES.true
      | then-c-ge-MAX_NODES-via-else-c-ge-MAX_NODES+then-not-mark w ↦ tested_met _ _ _ _ _ _ c.loop-k.invariant c.loop-k-test.true c.id_at-c.ensures.0 _ c.free_count-n.ensures.0 w.if-c-ge-MAX_NODES.false w.mark.ensures w.if-not-mark.true
    ]

pub loop-k-preserved : goal.loop-k-preserved
loop-k-preserved c = search tested_one

pub returns : goal.returns
returns c = search tested_all
