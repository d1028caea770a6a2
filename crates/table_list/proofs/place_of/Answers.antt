use Rattle.table_list.proofs.Records.{at_found, found_held}
use borrow.Author.Rules.{rules}
use Rattle.table_list.proofs.place_of.Goals as goal

pub unwrap-k-requires : goal.unwrap-k-requires
unwrap-k-requires c = search (rules, found_held)

pub place_at-requires : goal.place_at-requires
place_at-requires c = (search rules, search (rules, at_found))
