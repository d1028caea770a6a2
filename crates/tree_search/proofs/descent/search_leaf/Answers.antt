use borrow.Author.Rules.{rules}
use Rattle.tree_node.proofs.Reading.{below_eight}
use Rattle.tree_search.proofs.Reading.{leaf_has, leaf_vertex, leaf_space, leaf_searched}
use Rattle.tree_search.proofs.descent.search_leaf.Goals as goal

pub leaf_place-p-requires : goal.leaf_place-p-requires
leaf_place-p-requires c = (search rules, search below_eight)

pub deal_vertex-requires : goal.deal_vertex-requires
deal_vertex-requires c = record { held = (search rules, search rules, search leaf_has, search leaf_vertex); space = (search leaf_space, search rules, search rules) }

pub returns : goal.returns
returns c = search leaf_searched
