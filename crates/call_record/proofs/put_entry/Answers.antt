use Rattle.call_record.proofs.Entries.{entry_is}
use Rattle.call_record.proofs.put_entry.Goals as goal

pub returns : goal.returns
returns c = search entry_is
