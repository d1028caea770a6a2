use Rattle.std.proofs.Common.{refl}
use Rattle.tree_node.specs.Boxes.{hull}
use Rattle.tree_node.proofs.boxes.nowhere.Goals as goal

pub returns : goal.returns
unfolding hull
returns c = refl
