use Rattle.std.proofs.Common.{arith, rules}
use lib.Ieee.{in_float}
use Rattle.readings.proofs.Returns.{steps_truncates, few_metres, many_metres, steps_off, steps_few}
use Rattle.readings.proofs.steps.Goals as goal

pub returns : goal.returns
returns c = search (rules, steps_off)

pub int_to_float-edge : goal.int_to_float-edge
unfolding in_float
int_to_float-edge c = tt

pub truncating_f32_to_u64-metres-requires : goal.truncating_f32_to_u64-metres-requires
truncating_f32_to_u64-metres-requires c =
    let t = steps_truncates c.args.x c.requires c.if-x-edge.true in
    record { lower_bound = t.0; upper_bound = t.1 }

pub overflow_cast-below : goal.overflow_cast-below
overflow_cast-below c = omega (arith, steps_few c.args.x c.requires c.truncating_f32_to_u64-metres.result c.if-x-edge.true c.truncating_f32_to_u64-metres.ensures)

pub returns-then-rest-lt50 : goal.returns-then-rest-lt50
returns-then-rest-lt50 c = search (rules, few_metres)

pub overflow_add-result : goal.overflow_add-result
overflow_add-result c = omega (arith, steps_few c.args.x c.requires c.truncating_f32_to_u64-metres.result c.if-x-edge.true c.truncating_f32_to_u64-metres.ensures)

pub returns-then-x-edge : goal.returns-then-x-edge
returns-then-x-edge c = search (rules, many_metres)
