use Rattle.call_parse.proofs.Finding.{position_is}
use borrow.Author.Rules.{rules}
use Rattle.call_parse.proofs.position_at.Goals as goal

pub returns : goal.returns
returns c = search (rules, position_is)
