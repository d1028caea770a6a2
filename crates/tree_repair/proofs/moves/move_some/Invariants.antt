use Rattle.tree_repair.specs.Moved.{Moved}
use Rattle.tree_repair.proofs.moves.move_some.Given as goal

abbrev pub invariant-loop : goal.invariant-loop
invariant-loop l = Moved l.c l.d l.counter l.initial.table l.table
