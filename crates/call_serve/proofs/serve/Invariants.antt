use mathlib.Core.Path.{◌≡◌}
use Prim.Native.Nat.{◌-◌}
use lib.ListN.{length}
use Rattle.call_serve.proofs.Turns.{Serving}
use Rattle.call_serve.proofs.serve.Given as goal

abbrev pub invariant-loop-c : goal.invariant-loop-c
invariant-loop-c l = Serving l.commands l.initial.t l.initial.report l.used l.written l.t l.report × (length l.work ≡ length l.initial.work) × (length l.report ≡ length l.initial.report)

abbrev pub decreases-loop-c : goal.decreases-loop-c
decreases-loop-c l = length l.commands - l.used
