use Rattle.list_insert.proofs.Moving.{room_made}
use borrow.Author.Rules.{rules}
use Rattle.list_insert.proofs.shift.Goals as goal

pub returns-then-i-j : goal.returns-then-i-j
returns-then-i-j c = search (rules, room_made)
