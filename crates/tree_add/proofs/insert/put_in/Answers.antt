use Rattle.tree_add.proofs.Rooms.{placed_kept, placed_over}
use Rattle.tree_add.proofs.insert.put_in.Goals as goal

pub returns-then-count-lt-MAX_ENTRIES : goal.returns-then-count-lt-MAX_ENTRIES
returns-then-count-lt-MAX_ENTRIES c = search placed_kept

pub returns : goal.returns
returns c = search placed_over
