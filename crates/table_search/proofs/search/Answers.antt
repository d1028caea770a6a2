use Rattle.table_search.proofs.Points.{leaf_points, leaf_few}
use Rattle.table_search.proofs.Listing.{searched_list}
use borrow.Author.Rules.{rules}
use Rattle.table_search.proofs.search.Goals as goal

pub search-requires : goal.search-requires
search-requires c =
    record {
      rooted = (search rules, search (rules, leaf_points), search (rules, leaf_few));
      leg_on_grid = search rules;
    }

pub returns : goal.returns
returns c = search (rules, searched_list)
