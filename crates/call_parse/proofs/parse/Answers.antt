use Rattle.call_parse.proofs.Finding.{cut_is, whole_is}
use borrow.Author.Rules.{rules}
use Rattle.call_parse.proofs.parse.Goals as goal

pub returns-then-s-i : goal.returns-then-s-i
returns-then-s-i c = search (rules, cut_is)

pub returns : goal.returns
returns c = search (rules, whole_is)
