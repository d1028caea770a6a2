use native.Mathlib.Omega.{arith}
use Rattle.list_row.proofs.Products.{sum_fits}
use Rattle.list_skip.proofs.weigh.Goals as goal

pub overflow_add-result : goal.overflow_add-result
overflow_add-result c = omega (arith, sum_fits c.args.m c.args.a c.args.n c.args.c (omega arith) (omega arith) (omega arith) (omega arith))
