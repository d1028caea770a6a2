use borrow.Author.Rules.{rules}
use Rattle.table_list.proofs.Records.{start_few, place_is}
use Rattle.table_list.proofs.place_at.Goals as goal

pub place_of_record-requires : goal.place_of_record-requires
place_of_record-requires c = search (rules, start_few)

pub returns : goal.returns
returns c = search (rules, place_is)
