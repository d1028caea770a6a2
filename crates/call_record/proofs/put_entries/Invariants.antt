use Prim.Native.Nat.{◌+◌, ◌*◌}
use Rattle.call_record.proofs.PutEntries.{Putting}
use Rattle.call_record.proofs.put_entries.Given as goal

abbrev pub invariant-loop-pair : goal.invariant-loop-pair
invariant-loop-pair l =
    let r = l.row in
    Putting r.leg r.t.now r.places.now l.j r.k l.initial.report l.at (l.j + 2 * l.pair) l.report
