use Rattle.table_header.proofs.Tours.{tour_stored, tour_ended}
use borrow.Author.Rules.{rules}
use Rattle.table_header.proofs.store_tour.Goals as goal

pub returns-in-None : goal.returns-in-None
returns-in-None c = search (rules, tour_ended)

pub returns-in-Some : goal.returns-in-Some
returns-in-Some c = search (rules, tour_stored)
