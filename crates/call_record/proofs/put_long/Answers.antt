use mathlib.Core.Path.{refl}
use Rattle.call_record.proofs.Writing.{put_long_is}
use Rattle.call_record.proofs.put_long.Goals as goal

pub returns : goal.returns
returns c = rw c.to_le_bytes.ensures (put_long_is c.args.b.now c.args.at c.args.x _ _ _ _ refl refl refl refl)
