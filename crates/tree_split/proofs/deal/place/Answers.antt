use Rattle.std.proofs.Common.{arith}
use Rattle.tree_split.proofs.Sharing.{ninth_new, ninth_old}
use Rattle.tree_split.proofs.deal.place.Goals as goal

pub returns-then-due : goal.returns-then-due
returns-then-due c =
    ninth_new _ _ _ c.requires.0 c.requires.1 c.requires.2 _ _ _ c.count.ensures.0 c.requires.5 (c.due.ensures.0 c.if-due.true) (omega arith) c.push.ensures

pub returns-else-due : goal.returns-else-due
returns-else-due c =
    ninth_old _ _ _ c.requires.0 c.requires.1 c.requires.2 _ _ _ c.count.ensures.0 c.requires.5 (omega (arith, c.due.ensures.1 c.if-due.false)) (omega arith) c.push-else-due.ensures
