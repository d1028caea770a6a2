use Rattle.std.proofs.Common.{◌≡◌, length}
use Rattle.limits.specs.Limits.{table_bytes}
use Rattle.tree_split.specs.Parted.{Dealing}
use Rattle.tree_split.proofs.deal.deal.Given as goal

abbrev pub invariant-loop-k : goal.invariant-loop-k
invariant-loop-k l = (length l.table ≡ table_bytes) × Dealing l.c l.s l.k l.initial.table l.table
