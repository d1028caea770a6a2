use Rattle.table_sites.proofs.Finding.{find_none, guessed_at, guessed_low, guessed_high}
use borrow.Author.Rules.{rules}
use Rattle.table_sites.proofs.find.Goals as goal

pub returns-then-k-eq0 : goal.returns-then-k-eq0
returns-then-k-eq0 c = search (rules, find_none)

pub returns-then-first-n : goal.returns-then-first-n
returns-then-first-n c = search (rules, guessed_at)

pub bisect-requires : goal.bisect-requires
bisect-requires c = (search rules, search (rules, guessed_low))

pub find_spread-requires : goal.find_spread-requires
find_spread-requires c = (search rules, search (rules, guessed_high), search rules)
