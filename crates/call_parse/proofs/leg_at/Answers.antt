use Rattle.call_parse.proofs.Finding.{leg_is}
use borrow.Author.Rules.{rules}
use Rattle.call_parse.proofs.leg_at.Goals as goal

pub returns : goal.returns
returns c = search (rules, leg_is)
