use Rattle.std.proofs.Common.{arith}
use Rattle.tree_split.proofs.Sharing.{offer_gone, offer_kept}
use Rattle.tree_split.proofs.deal.offer.Goals as goal

pub returns-then-due : goal.returns-then-due
returns-then-due c = offer_gone _ _ _ _ _ (omega arith) c.count.ensures.0 _ (c.due.ensures.0 c.if-due.true) (omega arith) c.shift.ensures

pub returns-else-due : goal.returns-else-due
returns-else-due c = offer_kept _ _ _ _ _ (omega arith) c.count.ensures.0 (omega arith) (c.due.ensures.1 c.if-due.false)
