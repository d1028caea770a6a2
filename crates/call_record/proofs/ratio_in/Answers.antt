use borrow.Author.Rules.{rules}
use native.Mathlib.Omega.{arith}
use Rattle.call_record.proofs.Starts.{edge_asks, ratio_none, ratio_is}
use Rattle.call_record.proofs.ratio_in.Goals as goal

pub returns-then-i-eq0 : goal.returns-then-i-eq0
returns-then-i-eq0 c = search (rules, ratio_none)

pub ratio_of-requires : goal.ratio_of-requires
ratio_of-requires c = edge_asks c.args.row.leg c.args.row.t.now c.args.row.places.now c.args.row.k c.args.i c.args.row.held (omega arith) (omega arith) c.vertex.ensures c.vertex-2.ensures

pub returns : goal.returns
returns c = ratio_is c.args.row.leg c.args.row.t.now c.args.row.places.now c.args.row.k c.args.i c.args.row.held (omega arith) (omega arith) c.vertex.ensures c.vertex-2.ensures c.ratio_of.ensures.0 c.ratio_of.ensures.1
