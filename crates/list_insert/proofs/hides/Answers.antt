use borrow.Author.Rules.{rules}
use Rattle.list_insert.proofs.Testing.{hides_tied}
use Rattle.list_insert.proofs.hides.Goals as goal

pub returns : goal.returns
returns c = search (rules, hides_tied)
