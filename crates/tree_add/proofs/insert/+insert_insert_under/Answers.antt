use Rattle.std.proofs.Common.{rules, arith}
use Rattle.tree_add.proofs.Upward.{inserted_leaf, down_ready, down_some, up_len, up_in, up_free, up_not_free, up_kept, up_open, up_full, up_out, up_over}
use Rattle.tree_add.proofs.insert.+insert_insert_under.Goals as goal

pub insert-returns-then-h-eq0 : goal.insert-returns-then-h-eq0
insert-returns-then-h-eq0 t c = search inserted_leaf

pub insert_under-insert-requires : goal.insert_under-insert-requires
insert_under-insert-requires t c = (omega arith, (rw c.from-c.ensures (search down_ready), omega arith, rw c.from-c.ensures (search down_some)))

pub insert_under-put-requires : goal.insert_under-put-requires
insert_under-put-requires t c =
    let i = rw c.from-c.ensures at c.insert.ensures in
    (search rules, search up_in)

pub insert_under-halve-requires : goal.insert_under-halve-requires
insert_under-halve-requires t c =
    let i = rw c.from-c.ensures at c.insert.ensures in
    rw c.from-c.ensures (search up_open, search rules, search up_in, search up_full, search up_free, search up_out, search up_not_free)

pub insert_under-returns-in-None : goal.insert_under-returns-in-None
insert_under-returns-in-None t c = let i = rw c.from-c.ensures at c.insert.ensures in search up_kept

pub insert_under-returns-in-Some : goal.insert_under-returns-in-Some
insert_under-returns-in-Some t c =
    let i = rw c.from-c.ensures at c.insert.ensures in
    let h = rw c.from-c.ensures at c.halve.ensures in
    search up_over
