use borrow.Author.Rules.{rules}
use native.Mathlib.Omega.{arith}
use Rattle.stops.proofs.Serving.{counts_front, used_inside, answered}
use Rattle.stops.proofs.serve.Goals as goal

pub keep-left-requires : goal.keep-left-requires
keep-left-requires g c = (
  omega (
    arith,
    used_inside _ _ _ _ c.batch-r.result _ _ _ c.requires.0 c.requires.1.work c.batch-r.ensures,
    counts_front c.args.held c.args.input.now c.requires.2,
  ),
  c.requires.2,
)

pub returns : goal.returns
returns g c = search (rules, answered)
