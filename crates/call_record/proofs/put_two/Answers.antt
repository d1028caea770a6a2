use Rattle.call_record.proofs.Entries.{two_are}
use Rattle.call_record.proofs.put_two.Goals as goal

pub returns : goal.returns
returns c = search two_are
