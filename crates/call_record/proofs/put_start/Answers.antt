use borrow.Author.Rules.{rules}
use Rattle.call_record.proofs.Entries.{start_wrote}
use Rattle.call_record.proofs.put_start.Goals as goal

pub returns : goal.returns
returns c = search (rules, start_wrote)
