use Rattle.std.proofs.Common.{rules, arith}
use Rattle.tree_remove.proofs.Taking.{child_down, child_none, child_loose, child_in, child_two, child_gone, leaf_open, leaf_told, next_open, next_in, take_in, take_few, take_on, take_hit, take_none}
use Rattle.tree_remove.proofs.take.+take_take_child.Goals as goal

pub take-take_from_leaf-requires : goal.take-take_from_leaf-requires
take-take_from_leaf-requires t c = (search leaf_open, search rules)

pub take-returns-then-h-eq0 : goal.take-returns-then-h-eq0
take-returns-then-h-eq0 t c = search leaf_told

pub take-entry_at-f-requires : goal.take-entry_at-f-requires
take-entry_at-f-requires t c = (search rules, take_in _ _ _ _ _ c.requires.0 _ c.next_holding.ensures _ c.in-Some.is)

pub take-take_child-requires : goal.take-take_child-requires
take-take_child-requires t c =
    let within = take_in _ _ _ _ _ c.requires.0 _ c.next_holding.ensures _ c.in-Some.is in
    (omega (arith, take_few _ _ _ _ _ c.requires.0 _ c.next_holding.ensures _ c.in-Some.is), (search rules, search rules, within, search rules))

pub take-overflow_add-i : goal.take-overflow_add-i
take-overflow_add-i t c = omega (arith, take_few _ _ _ _ _ c.requires.0 _ c.next_holding.ensures _ c.in-Some.is)

pub take-take-requires : goal.take-take-requires
take-take-requires t c =
    let told = c.if-take_child.false in
    let s = c.take_child.ensures in
    let within = take_in _ _ _ _ _ c.requires.0 _ c.next_holding.ensures _ c.in-Some.is in
    (omega (arith, take_few _ _ _ _ _ c.requires.0 _ c.next_holding.ensures _ c.in-Some.is), (next_open _ _ _ _ _ _ _ s told c.requires.0, next_in _ _ _ _ _ _ _ s _ told within))

pub take-returns-in-None : goal.take-returns-in-None
take-returns-in-None t c = take_none _ _ _ _ _ c.requires.0 _ c.next_holding.ensures c.in-None.is

pub take-returns-then-take_child : goal.take-returns-then-take_child
take-returns-then-take_child t c = take_hit _ _ _ _ _ _ _ _ c.if-take_child.true c.take_child.ensures

pub take-returns-else-take_child : goal.take-returns-else-take_child
take-returns-else-take_child t c =
    take_on _ _ _ _ _ c.requires.0 _ c.next_holding.ensures _ c.in-Some.is _ c.entry_at-f.ensures _ _ c.if-take_child.false c.take_child.ensures _ _ c.take.ensures

pub take_child-take-requires : goal.take_child-take-requires
take_child-take-requires t c = (omega arith, (rw c.from.ensures (search child_down), search rules))

pub take_child-repair-requires : goal.take_child-repair-requires
take_child-repair-requires t c =
    let s = rw c.from.ensures at c.take.ensures in
    (search child_loose, search child_in, search child_two)

pub take_child-returns : goal.take_child-returns
take_child-returns t c = let s = rw c.from.ensures at c.take.ensures in search child_gone

pub take_child-returns-then-not-take : goal.take_child-returns-then-not-take
take_child-returns-then-not-take t c = let s = rw c.from.ensures at c.take.ensures in search child_none
