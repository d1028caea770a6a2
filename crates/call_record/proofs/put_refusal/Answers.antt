use Rattle.call_record.proofs.Writing.{refusal_is}
use borrow.Author.Rules.{rules}
use Rattle.call_record.proofs.put_refusal.Goals as goal

pub returns : goal.returns
returns c = search (rules, refusal_is)
