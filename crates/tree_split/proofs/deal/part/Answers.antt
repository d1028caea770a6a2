use Rattle.tree_split.proofs.Sharing.{part_two, part_eight, part_none, part_sum, part_done}
use borrow.Author.Rules.{rules}
use Rattle.tree_split.proofs.deal.part.Goals as goal

pub deal-requires : goal.deal-requires
deal-requires c = (search rules, search rules, search part_two, search part_eight, search part_none)

pub place-requires : goal.place-requires
place-requires c = (search rules, search rules, search part_two, search rules, search rules, search part_sum)

pub returns : goal.returns
returns c = part_done _ _ _ _ c.requires.3 c.fresh-s.ensures _ c.deal.ensures _ _ c.place.ensures
