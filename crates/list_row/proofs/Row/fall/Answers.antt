use mathlib.Core.Path.{◌≡◌}
use Prim.Native.Nat.{◌+◌, ◌-◌}
use native.Mathlib.Omega.{arith}
use Rattle.list_row.proofs.Bisection.{fall_end, fall_found}
use Rattle.list_row.proofs.Row.fall.Goals as goal

pub returns-then-u-a : goal.returns-then-u-a
returns-then-u-a c =
    let (_, w, s) = c.loop-i.invariant in
    let e : c.loop-i.i - 1 + 1 ≡ c.loop-i.i = omega arith in
    rw e (fall_found w (omega arith) s c.vertex-u.ensures (omega arith) c.args.self.held)

pub returns-then-end-eq0 : goal.returns-then-end-eq0
returns-then-end-eq0 c = let (_, w, s) = c.loop-i.invariant in fall_end w (omega arith) c.args.self.held s

pub bisected-requires : goal.bisected-requires
bisected-requires c =
    let (h, w, _) = c.loop-i.invariant in
    let e : c.loop-i.i ≡ c.saturating_sub-end.result = omega arith in
    (omega (arith, c.requires.0.within), rw e at w)
