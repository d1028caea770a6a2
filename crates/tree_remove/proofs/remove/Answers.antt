use Rattle.tree_remove.proofs.Depth.{remove_len, remove_small}
use Rattle.tree_remove.proofs.Removing.{header_rooted, header_member, remove_done}
use Rattle.tree_remove.proofs.remove.Goals as goal

pub take_from-s-requires : goal.take_from-s-requires
take_from-s-requires c = (search header_rooted, search header_member)

pub store_root-requires : goal.store_root-requires
store_root-requires c = search remove_small

pub returns : goal.returns
returns c = search remove_done
