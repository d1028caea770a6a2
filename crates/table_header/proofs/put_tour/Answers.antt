use Rattle.table_header.proofs.Tours.{tour_put}
use borrow.Author.Rules.{rules}
use Rattle.table_header.proofs.put_tour.Goals as goal

pub returns : goal.returns
returns c = search (rules, tour_put)
