use Rattle.tree_remove.proofs.Removing.{none_there}
use Rattle.tree_remove.proofs.root.take_from.Goals as goal

pub returns-in-None : goal.returns-in-None
returns-in-None c = absurd (none_there _ _ _ c.in-None.is c.requires.1)
