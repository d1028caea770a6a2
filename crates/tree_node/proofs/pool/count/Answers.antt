use Rattle.std.proofs.Common.{◌∙◌, rules}
use Rattle.tree_node.proofs.Reading.{counted, counted_none}
use Rattle.tree_node.proofs.pool.count.Goals as goal

pub returns-then-stored-le-MAX_ENTRIES : goal.returns-then-stored-le-MAX_ENTRIES
returns-then-stored-le-MAX_ENTRIES c = let q = c.from-stored.ensures ∙ c.word.ensures.0 in (search counted, search rules)

pub returns : goal.returns
returns c = let q = c.from-stored.ensures ∙ c.word.ensures.0 in (search counted_none, search rules)
