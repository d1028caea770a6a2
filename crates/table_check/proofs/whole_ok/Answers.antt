use Rattle.table_check.proofs.Deciding.{sites_yes}
use borrow.Author.Rules.{rules}
use Rattle.table_check.proofs.whole_ok.Goals as goal

pub tour_ok-requires : goal.tour_ok-requires
tour_ok-requires c = search (rules, sites_yes)

pub tree_ok-requires : goal.tree_ok-requires
tree_ok-requires c = search (rules, sites_yes)
