use Rattle.std.proofs.Common.{arith}
use Rattle.readings.proofs.Patterns.{number_some, number_none, number_asks}
use Rattle.readings.proofs.number.Goals as goal

pub float_from_bits-result : goal.float_from_bits-result
float_from_bits-result c = number_asks c.args.bits (omega arith)

pub returns-then-size-lt2139095040 : goal.returns-then-size-lt2139095040
returns-then-size-lt2139095040 c = number_some c.args.bits (omega arith)

pub returns : goal.returns
returns c = number_none c.args.bits (omega arith)
