use Rattle.std.proofs.Common.{rules}
use Rattle.tree_remove.proofs.Removing.{root_open, found, cut_ready, cut_some, cut_room, cut_done}
use Rattle.tree_remove.proofs.root.take_under.Goals as goal

pub take-requires : goal.take-requires
take-requires c = (root_open _ _ c.args.e _ c.requires.0, search rules)

pub shrink-requires : goal.shrink-requires
shrink-requires c =
    let q = c.if-take.true in
    let s = c.take.ensures in
    (cut_ready _ _ _ _ c.requires.0 _ _ q s, cut_some _ _ _ _ c.requires.0 _ _ q s, cut_room _ _ _ _ c.requires.0 _ _ q s)

pub returns-then-take : goal.returns-then-take
returns-then-take c = cut_done _ _ _ _ c.requires.0 _ _ c.if-take.true c.take.ensures _ _ c.shrink.ensures

pub returns : goal.returns
returns c = absurd (found _ _ _ _ c.requires.0 _ _ c.requires.1 c.if-take.false c.take.ensures)
