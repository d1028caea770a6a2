use Rattle.tree_add.proofs.Raising.{first_some, first_within, first_done, over_room}
use borrow.Author.Rules.{rules}
use Rattle.tree_add.proofs.root.add_first.Goals as goal

pub fresh-n-requires : goal.fresh-n-requires
fresh-n-requires c = (search first_some, search first_within)

pub push-requires : goal.push-requires
push-requires c = (search rules, search over_room)

pub returns : goal.returns
returns c = search first_done
