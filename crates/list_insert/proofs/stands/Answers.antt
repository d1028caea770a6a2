use borrow.Author.Rules.{rules}
use native.Mathlib.Omega.{arith}
use Rattle.list_row.proofs.Stacks.{held_below}
use Rattle.list_insert.proofs.Testing.{not_right, not_down, stands_one, turn_asks, stands_two}
use Rattle.list_insert.proofs.stands.Goals as goal

pub returns-then-x-u : goal.returns-then-x-u
returns-then-x-u c = search (rules, not_right)

pub returns-then-u-x : goal.returns-then-u-x
returns-then-u-x c = search (rules, not_down)

pub returns-then-j-eq1 : goal.returns-then-j-eq1
returns-then-j-eq1 c = search (rules, stands_one)

pub bends-requires : goal.bends-requires
bends-requires c = omega (arith, turn_asks _ c.args.j (omega arith) c.requires.vertex.0 c.requires.vertex.1 c.vertex-s.ensures (omega arith) (held_below c.args.row.leg c.args.row.t.now c.args.row.places.now c.args.row.k c.args.j (omega arith) c.args.row.held))

pub returns : goal.returns
returns c =
    stands_two c.args.row.places.now c.args.j (omega arith) c.requires.vertex.0 c.requires.vertex.1 c.vertex-s.ensures (omega arith) (omega arith) (omega arith)
    c.bends.result c.bends.ensures
