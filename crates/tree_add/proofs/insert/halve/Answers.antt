use Rattle.tree_add.proofs.Halves.{open_not_free, half_in, renewed_split}
use borrow.Author.Rules.{rules}
use Rattle.tree_add.proofs.insert.halve.Goals as goal

pub split-s-requires : goal.split-s-requires
split-s-requires c = (search rules, search rules, search rules, search open_not_free, search rules)

pub renew-requires : goal.renew-requires
renew-requires c = (search rules, search rules, search half_in)

pub returns : goal.returns
returns c = renewed_split _ _ _ _ _ _ _ c.requires.5 c.requires.6 c.split-s.ensures _ _ _ _ _ c.requires.0 c.requires.1 c.renew.ensures c.hull_of-g.ensures c.put_in.ensures
