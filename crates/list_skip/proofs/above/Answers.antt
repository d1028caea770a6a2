use native.Mathlib.Omega.{arith}
use borrow.Author.Tests.{ltb-true, leb-true}
use Rattle.split.proofs.Skipping.{shut_edge}
use Rattle.list_skip.proofs.Witnesses.{if_so}
use Rattle.list_skip.proofs.above.Goals as goal

pub returns : goal.returns
returns c =
    if_so _ (λ e. shut_edge c.args.u c.args.v c.args.corner.a c.args.corner.c _ _ (omega arith) (omega arith) (omega arith) (omega arith)
    c.weigh-edge.ensures c.weigh-here.ensures (omega (arith, ltb-true, leb-true)))
