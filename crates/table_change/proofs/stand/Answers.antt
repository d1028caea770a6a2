use Rattle.table_change.proofs.Accepting.{stand_whole, stand_leg, stand_done}
use borrow.Author.Rules.{rules}
use Rattle.table_change.proofs.stand.Goals as goal

pub restand-requires : goal.restand-requires
restand-requires c = (search (rules, stand_whole), search (rules, stand_leg), search rules)

pub returns : goal.returns
returns c = search (rules, stand_done)
