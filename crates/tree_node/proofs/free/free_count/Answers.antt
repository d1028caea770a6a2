use Rattle.std.proofs.Common.{◌∙◌, rules}
use Rattle.tree_node.proofs.FreeStack.{free_counted, free_none}
use Rattle.tree_node.proofs.free.free_count.Goals as goal

pub returns-then-stored-le-MAX_NODES : goal.returns-then-stored-le-MAX_NODES
returns-then-stored-le-MAX_NODES c = let q = c.from-stored.ensures ∙ c.word.ensures.0 in (search free_counted, search rules)

pub returns : goal.returns
returns c = let q = c.from-stored.ensures ∙ c.word.ensures.0 in (search free_none, search rules)
