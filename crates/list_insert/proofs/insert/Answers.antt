use Rattle.list_insert.proofs.Inserting.{insert_hidden, insert_between, insert_above, insert_listed}
use Rattle.list_row.proofs.Stacks.{held_below}
use Rattle.list_insert.proofs.insert.Goals as goal

pub invariant_of-left : goal.invariant_of-left
invariant_of-left c =
    record { held = held_below c.args.leg c.args.t.now c.args.work.now c.args.k c.args.n c.requires.held.3.within c.requires.held.0; on_grid = c.requires.held.1 }

pub returns-in_default : goal.returns-in_default
returns-in_default c = insert_hidden c.requires.held.0 c.requires.held.3 c.requires.vertex.0 c.in_default.ensures

pub below_chord-requires : goal.below_chord-requires
below_chord-requires c =
    let b = insert_between c.requires.held.0 c.requires.held.3 c.requires.vertex.0 c.in-Some.ensures.0 c.in-Some.ensures.1 c.right_tangent-i.ensures in
    record { within = (b.0, b.1); vertex = (c.requires.vertex.0, b.2) }

pub returns-then-not-below_chord : goal.returns-then-not-below_chord
returns-then-not-below_chord c =
    insert_above c.requires.held.0 c.requires.held.3 c.requires.vertex.0 c.in-Some.ensures.0 c.in-Some.ensures.1 c.right_tangent-i.ensures
    c.below_chord.result c.if-not-below_chord.true c.below_chord.ensures

pub returns : goal.returns
returns c =
    insert_listed c.requires.held.0 c.requires.held.3 c.requires.vertex.0 c.in-Some.ensures.0 c.in-Some.ensures.1 c.right_tangent-i.ensures
    c.requires.vertex.1 c.requires.held.2 c.below_chord.result c.if-not-below_chord.false c.below_chord.ensures c.splice.ensures.count c.splice.ensures.spliced
