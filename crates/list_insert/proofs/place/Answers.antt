use borrow.Author.Rules.{rules}
use native.Mathlib.Omega.{arith}
use mathlib.Core.Path.{◌≡◌, refl}
use Prim.Native.Nat.{◌+◌, ◌-◌}
use Rattle.list_row.proofs.Reading.{itself}
use Rattle.list_insert.proofs.Pushing.{last_has, place_hidden, place_under, place_next, none_left}
use Rattle.list_insert.proofs.place.Goals as goal

pub loop-i-init : goal.loop-i-init
loop-i-init c = record { held = c.args.row.held; within = omega arith; same = refl }

pub hides-requires : goal.hides-requires
hides-requires c = record { hider = (search (rules, itself), search (rules, last_has)); hidden = (search rules, search rules) }

pub returns-then-hides : goal.returns-then-hides
returns-then-hides c = (c.loop-i.i, omega arith, search (rules, place_hidden))

pub stands-requires : goal.stands-requires
stands-requires c =
    let e : c.loop-i.i - 1 + 1 ≡ c.loop-i.i = omega arith in
    rw e (record { within = search rules; vertex = search rules })

pub returns-then-stands : goal.returns-then-stands
returns-then-stands c =
    let e : c.loop-i.i - 1 + 1 ≡ c.loop-i.i = omega arith in
    let s = rw e at c.stands.ensures in
    (omega arith, search (rules, place_under))

pub loop-i-preserved : goal.loop-i-preserved
loop-i-preserved c =
    let e : c.loop-i.i - 1 + 1 ≡ c.loop-i.i = omega arith in
    let s = rw e at c.stands.ensures in
    search (rules, place_next)

pub returns : goal.returns
returns c = (omega arith, none_left c.loop-i.invariant (omega arith))
