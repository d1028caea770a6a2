use Rattle.list_insert.proofs.Beating.{over_none, tangent_here, tangent_next, tangent_none}
use borrow.Author.Rules.{rules}
use Rattle.list_insert.proofs.right_tangent.Goals as goal

pub loop-i-init : goal.loop-i-init
loop-i-init c = search (rules, over_none)

pub stays-requires : goal.stays-requires
stays-requires c = record { within = search rules; vertex = (search rules, c.requires.1.right c.loop-i.i c.loop-i.invariant.from c.loop-i-test.true) }

pub returns-then-stays : goal.returns-then-stays
returns-then-stays c = search (rules, tangent_here)

pub loop-i-preserved : goal.loop-i-preserved
loop-i-preserved c = search (rules, tangent_next)

pub returns : goal.returns
returns c = search (rules, tangent_none)
