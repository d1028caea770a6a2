use Rattle.std.proofs.Common.{rules}
use Rattle.tree_remove.proofs.Taking.{leaf_in, leaf_gone, leaf_none}
use Rattle.tree_remove.proofs.take.take_from_leaf.Goals as goal

pub drop_entry-requires : goal.drop_entry-requires
drop_entry-requires c = (search rules, leaf_in _ _ _ _ c.requires.0 _ c.next_equal.ensures _ c.in-Some.is)

pub returns-in-Some : goal.returns-in-Some
returns-in-Some c = leaf_gone _ _ _ _ c.requires.0 _ c.next_equal.ensures _ _ c.in-Some.is c.drop_entry.ensures

pub returns-in-None : goal.returns-in-None
returns-in-None c = leaf_none _ _ _ _ c.requires.0 _ c.next_equal.ensures c.in-None.is
