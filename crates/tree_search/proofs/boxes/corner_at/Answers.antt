use borrow.Author.Rules.{rules}
use native.Mathlib.Omega.{arith}
use Rattle.tree_search.proofs.Corners.{area_placed, area_far, placed_at}
use Rattle.tree_search.proofs.boxes.corner_at.Goals as goal

pub from_area-requires : goal.from_area-requires
from_area-requires c = (search (area_placed, placed_at), search rules)

pub from_area-requires-2 : goal.from_area-requires-2
from_area-requires-2 c = (search (area_placed, placed_at), search rules)

pub returns : goal.returns
returns c = record {
  a_is = area_far _ _ _ c.area_of-area.ensures c.entry_at.ensures c.args.leg.s c.from_area.ensures.0;
  c_is = area_far _ _ _ c.area_of-area.ensures c.entry_at.ensures c.args.leg.e c.from_area-2.ensures.0;
  small = record { small_a = omega arith; small_c = omega arith };
}
