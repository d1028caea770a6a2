use Rattle.tree_add.proofs.Raising.{told_rooted, told_few, told_small, add_done}
use borrow.Author.Rules.{rules}
use Rattle.tree_add.proofs.add.Goals as goal

pub plant-q-requires : goal.plant-q-requires
plant-q-requires c = (search told_rooted, search told_few)

pub store_root-requires : goal.store_root-requires
store_root-requires c = search told_small

pub returns : goal.returns
returns c = search add_done
