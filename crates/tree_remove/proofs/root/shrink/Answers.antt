use Rattle.std.proofs.Common.{rules, arith}
use Rattle.tree_remove.proofs.Shrinking.{shrink_leaf, shrink_none, shrink_same, shrink_some, shrink_child}
use Rattle.tree_remove.proofs.root.shrink.Goals as goal

pub returns-then-m-gt0 : goal.returns-then-m-gt0
returns-then-m-gt0 c = shrink_leaf _ _ _ c.requires.0 _ c.count-m.ensures.0 c.if-r-eq0.true c.if-m-gt0.true

pub returns-then-r-eq0 : goal.returns-then-r-eq0
returns-then-r-eq0 c = shrink_none _ _ _ c.requires.0 _ _ c.count-m.ensures.0 c.if-r-eq0.true c.if-m-gt0.false c.give.ensures

pub returns-then-m-gt1 : goal.returns-then-m-gt1
returns-then-m-gt1 c = shrink_same _ _ _ c.requires.0 _ c.count-m.ensures.0 c.if-r-eq0.false (omega arith)

pub entry_at-f-requires : goal.entry_at-f-requires
entry_at-f-requires c = search (rules, shrink_some)

pub returns : goal.returns
returns c =
    rw c.from.ensures
    (shrink_child _ _ _ c.requires.0 _ _ _ c.count-m.ensures.0 c.requires.1 c.if-r-eq0.false (omega arith) c.entry_at-f.ensures c.give-2.ensures)
