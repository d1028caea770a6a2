use Rattle.tree_node.specs.Boxes.{grow}
use Rattle.tree_node.proofs.Telling.{entry_eq}
use Rattle.tree_node.proofs.boxes.grown.Goals as goal

pub returns : goal.returns
unfolding grow
returns c = search entry_eq
