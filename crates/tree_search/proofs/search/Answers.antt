use mathlib.Core.Path.{sym, ◌∙◌}
use mathlib.Core.List.{[]}
use Rattle.tree_search.proofs.Finding.{empty_found, top_readable, top_some, top_ahead, top_found}
use Rattle.tree_search.proofs.search.Goals as goal

pub search_node-requires : goal.search_node-requires
search_node-requires c =
    let q = sym c.read_root.ensures ∙ c.in-Some.is in
    record { readable = (top_readable _ _ _ c.requires.rooted.0 q, top_some _ _ _ c.requires.rooted.0 q); ahead = (top_ahead _ _ _ c.requires.rooted.0 q _ _ c.requires.rooted.1 c.requires.rooted.2 c.requires.leg_on_grid.0 c.requires.leg_on_grid.1, c.no_edge-edge.ensures []) }

pub returns-in-None : goal.returns-in-None
returns-in-None c = empty_found _ (sym c.read_root.ensures ∙ c.in-None.is) _ _

pub returns-in-Some : goal.returns-in-Some
returns-in-Some c =
    let q = sym c.read_root.ensures ∙ c.in-Some.is in
    top_found _ _ _ c.requires.rooted.0 q _ _ _ _ c.search_node.ensures
