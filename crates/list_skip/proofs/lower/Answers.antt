use native.Mathlib.Omega.{arith}
use borrow.Author.Tests.{ltb-true, leb-true}
use Rattle.split.proofs.Skipping.{shut_one}
use Rattle.list_skip.proofs.Witnesses.{if_so}
use Rattle.list_skip.proofs.lower.Goals as goal

pub returns-then-v-corner-2 : goal.returns-then-v-corner-2
returns-then-v-corner-2 c =
    if_so _ (λ e. shut_one c.args.v c.args.corner.a c.args.corner.c (omega arith) (omega arith) (omega (arith, ltb-true, leb-true)))
