use Rattle.tree_add.proofs.Rooms.{renewed}
use Rattle.tree_add.proofs.insert.renew.Goals as goal

pub returns : goal.returns
returns c = search renewed
