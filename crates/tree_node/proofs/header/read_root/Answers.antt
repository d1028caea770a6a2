use Rattle.std.proofs.Common.{◌∙◌}
use Rattle.tree_node.proofs.Heading.{empty_told, top_told}
use Rattle.tree_node.proofs.header.read_root.Goals as goal

pub returns-then-levels-eq0 : goal.returns-then-levels-eq0
returns-then-levels-eq0 c = let q = c.from-levels.ensures ∙ c.word.ensures.0 in search empty_told

pub returns : goal.returns
returns c =
    let q = c.from-levels.ensures ∙ c.word.ensures.0 in
    let r = c.from.ensures ∙ c.word-2.ensures.0 in
    search top_told
