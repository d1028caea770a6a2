use native.Mathlib.Omega.{arith}
use Rattle.tree_node.proofs.Heading.{small_levels, small_root, empty_headed, top_headed}
use Rattle.tree_node.proofs.header.store_root.Goals as goal

pub overflow_add-top : goal.overflow_add-top
overflow_add-top c = omega (arith, small_levels _ _ c.in-Some.is c.requires)

pub overflow_cast-top : goal.overflow_cast-top
overflow_cast-top c = omega (arith, small_levels _ _ c.in-Some.is c.requires)

pub overflow_cast-top-in-Some : goal.overflow_cast-top-in-Some
overflow_cast-top-in-Some c = search small_root

pub returns-in-None : goal.returns-in-None
returns-in-None c = search empty_headed

pub returns-in-Some : goal.returns-in-Some
returns-in-Some c = search top_headed
