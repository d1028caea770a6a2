use Rattle.list_insert.proofs.Moving.{spliced}
use borrow.Author.Rules.{rules}
use Rattle.list_insert.proofs.splice.Goals as goal

pub returns : goal.returns
returns c = record { count = search rules; spliced = search (rules, spliced) }
