use Rattle.tree_check.proofs.RootPassing.{root_none, root_top}
use Rattle.tree_check.proofs.walk.check_root.Goals as goal

pub returns-in-None : goal.returns-in-None
returns-in-None c = search root_none

pub returns-in-Some : goal.returns-in-Some
returns-in-Some c = search root_top
