use Rattle.std.proofs.Common.{arith}
use lib.Ieee.{neg}
use Rattle.readings.proofs.Exactly.{above_zero, below_zero, at_zero}
use Rattle.readings.proofs.Returns.{steps_most, east_returns, west_returns, west_beyond, zero_returns}
use Rattle.readings.proofs.coordinate.Goals as goal

pub steps-requires : goal.steps-requires
steps-requires c = search above_zero

pub overflow_add-result : goal.overflow_add-result
overflow_add-result c = omega (arith, c.steps.ensures, steps_most c.args.x)

pub returns-then-x : goal.returns-then-x
returns-then-x c = search (above_zero, east_returns)

pub steps-k-requires : goal.steps-k-requires
steps-k-requires c = search below_zero

pub returns-then-k-le-HALF_WIDTH : goal.returns-then-k-le-HALF_WIDTH
returns-then-k-le-HALF_WIDTH c = search (below_zero, west_returns)

pub overflow_add-result-then-x-2 : goal.overflow_add-result-then-x-2
overflow_add-result-then-x-2 c = omega (arith, c.steps-k.ensures, steps_most (neg c.args.x))

pub returns-then-x-2 : goal.returns-then-x-2
returns-then-x-2 c = search (below_zero, west_beyond)

pub returns : goal.returns
returns c = search (at_zero, zero_returns)
