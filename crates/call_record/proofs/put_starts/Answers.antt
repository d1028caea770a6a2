use Rattle.call_record.proofs.Entries.{starts_wrote}
use Rattle.call_record.proofs.put_starts.Goals as goal

pub returns : goal.returns
returns c = search starts_wrote
