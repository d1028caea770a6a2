use Rattle.table_sites.proofs.Checking.{Checked}
use Rattle.table_sites.proofs.rules.check.Given as goal

abbrev pub invariant-loop-k : goal.invariant-loop-k
invariant-loop-k l = Checked l.t l.n l.k l.low
