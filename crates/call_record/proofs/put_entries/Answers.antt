use mathlib.Core.Path.{◌≡◌}
use Prim.Native.Nat.{◌+◌}
use native.Mathlib.Omega.{arith}
use Rattle.call_record.proofs.PutEntries.{putting_none, putting_two, putting_last}
use Rattle.call_record.proofs.put_entries.Goals as goal

pub loop-pair-init : goal.loop-pair-init
loop-pair-init c =
    let e : c.args.j + 0 ≡ c.args.j = omega arith in
    rw e (putting_none _ _ _ _ _ _ _ c.requires.0)

pub loop-pair-preserved : goal.loop-pair-preserved
loop-pair-preserved c = putting_two c.loop-pair.invariant (omega arith) (omega arith) (omega arith) c.put_two.ensures

pub returns-then-n-eq1 : goal.returns-then-n-eq1
returns-then-n-eq1 c = putting_last c.loop-pair.invariant (omega arith) (omega arith) (omega arith) (omega arith) c.put_entry.ensures
