use Rattle.tree_add.proofs.Halves.{open_not_free, half_within, half_not_c, half_not_s}
use Rattle.tree_add.proofs.Raising.{rise_some, rise_done}
use borrow.Author.Rules.{rules}
use Rattle.tree_add.proofs.root.rise.Goals as goal

pub split-s-requires : goal.split-s-requires
split-s-requires c = (search rules, search rules, search rules, search open_not_free, search rules)

pub over-m-requires : goal.over-m-requires
over-m-requires c = (search rise_some, search half_within, search rules, search rules, search half_not_c, search half_not_s)

pub returns : goal.returns
returns c = search rise_done
