use borrow.Author.Rules.{rules}
use mathlib.Core.Path.{◌≡◌}
use Prim.Native.Nat.{◌+◌, ◌-◌, ◌<◌}
use native.Mathlib.Omega.{arith}
use Rattle.tree_node.proofs.Reading.{below_eight}
use Rattle.tree_search.proofs.Reading.{step_on, step_leaf, step_known, step_shut, child_readable, child_some, child_ahead, child_searched, node_placed, left_all, left_first, left_next, left_none}
use Rattle.tree_search.proofs.descent.+search_entry_search_node.Goals as goal

pub search_entry-shuts-requires : goal.search_entry-shuts-requires
search_entry-shuts-requires t c = (c.requires.ahead.1.small, c.requires.readable.2.small)

pub search_entry-returns-then-shuts : goal.search_entry-returns-then-shuts
search_entry-returns-then-shuts t c =
    step_known _ _ _ _ c.requires.readable.0 c.requires.readable.1 c.requires.ahead.0 c.requires.readable.2 c.requires.ahead.1 c.shuts.result c.if-shuts.true c.shuts.ensures

pub search_entry-covers-shut-requires : goal.search_entry-covers-shut-requires
search_entry-covers-shut-requires t c = c.requires.readable.2.small

pub search_entry-returns-then-shut : goal.search_entry-returns-then-shut
search_entry-returns-then-shut t c =
    step_shut _ _ _ _ c.requires.readable.0 c.requires.readable.1 c.requires.ahead.0 c.requires.readable.2 c.covers-shut.ensures c.if-shut.true

pub search_entry-search_leaf-k-requires : goal.search_entry-search_leaf-k-requires
search_entry-search_leaf-k-requires t c =
    let z : c.args.h ≡ 0 = c.if-h-eq0.true in
    record {
      readable = (rw z at c.requires.readable.0, c.requires.readable.1, c.requires.readable.2);
      ahead = (rw z at c.requires.ahead.0, c.covers-shut.ensures.cut);
    }

pub search_entry-returns-then-h-eq0 : goal.search_entry-returns-then-h-eq0
search_entry-returns-then-h-eq0 t c =
    step_leaf _ _ c.if-h-eq0.true c.requires.ahead.0 c.covers-shut.ensures.knows c.search_leaf-k.ensures

pub search_entry-search_node-k-requires : goal.search_entry-search_node-k-requires
search_entry-search_node-k-requires t c =
    let rd = c.requires.readable.0 in
    let lt = c.requires.readable.1 in
    let qe = c.entry_at-e.ensures in
    let some : 0 < c.args.h = omega (arith, c.if-h-eq0.false) in
    rw c.from-child.ensures (
      omega arith,
      (
        (child_readable _ _ _ _ _ rd lt some qe, child_some _ _ _ _ _ rd lt some qe),
        (child_ahead _ _ _ _ _ rd lt some qe c.requires.ahead.0, c.covers-shut.ensures.knows),
      ),
    )

pub search_entry-returns : goal.search_entry-returns
search_entry-returns t c =
    let rd = c.requires.readable.0 in
    let lt = c.requires.readable.1 in
    let qe = c.entry_at-e.ensures in
    let some : 0 < c.args.h = omega (arith, c.if-h-eq0.false) in
    step_on c.requires.ahead.0 c.covers-shut.ensures.knows (child_searched _ _ _ _ _ rd lt some qe (rw c.from-child.ensures at c.search_node-k.ensures))

pub search_node-measure-i-requires : goal.search_node-measure-i-requires
search_node-measure-i-requires t c =
    let rd = c.requires.readable.0 in
    let ah = c.requires.ahead.0 in
    record {
      t_len = (rd.id, c.requires.readable.1);
      leg_on_grid = (ah.leg, node_placed rd ah, search rules);
    }

pub search_node-loop-init : goal.search_node-loop-init
search_node-loop-init t c =
    left_all _ _ c.measure-i.ensures.first (omega (arith, c.count-all.ensures.0)) c.requires.ahead.0 c.requires.ahead.1

pub search_node-bounds-corners-i : goal.search_node-bounds-corners-i
search_node-bounds-corners-i t c = below_eight _ _ _ c.loop.invariant.here

pub search_node-search_entry-step-requires : goal.search_node-search_entry-step-requires
search_node-search_entry-step-requires t c =
    let w = c.loop.invariant in
    let far = c.measure-i.ensures.measured in (
      omega arith,
      (
        (c.requires.readable.0, w.here, far.is _ w.here),
        (left_first w (omega arith), w.knows),
      ),
    )

pub search_node-after-i-requires : goal.search_node-after-i-requires
search_node-after-i-requires t c =
    let all = c.count-all.ensures in
    (omega (arith, all.0, c.loop.invariant.here), omega (arith, all.1))

pub search_node-loop-preserved : goal.search_node-loop-preserved
search_node-loop-preserved t c =
    let e : c.count-all.result - (c.loop.counter + 1) ≡ c.count-all.result - c.loop.counter - 1 = omega arith in
    rw e (left_next c.loop.invariant (omega arith) _ _ _ _ c.count-all.ensures.0 c.after-i.ensures c.search_entry-step.ensures)

pub search_node-shape_of-work : goal.search_node-shape_of-work
search_node-shape_of-work t c = (left_none c.loop.invariant (omega arith)).only.len

pub search_node-returns : goal.search_node-returns
search_node-returns t c = left_none c.loop.invariant (omega arith)
