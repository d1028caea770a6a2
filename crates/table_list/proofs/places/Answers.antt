use borrow.Author.Rules.{rules}
use Rattle.table_list.proofs.Rows.{loading_none, loading_one, loading_all, number_held}
use Rattle.table_list.proofs.places.Goals as goal

pub loop-i-init : goal.loop-i-init
loop-i-init c = search (rules, loading_none)

pub place_of-p-requires : goal.place_of-p-requires
place_of-p-requires c = (search rules, search (rules, number_held))

pub loop-i-preserved : goal.loop-i-preserved
loop-i-preserved c = search (rules, loading_one)

pub returns : goal.returns
returns c = search (rules, loading_all)
