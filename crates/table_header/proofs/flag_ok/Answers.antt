use Rattle.table_header.proofs.Zeros.{unset_ok, set_ok}
use borrow.Author.Rules.{rules}
use Rattle.table_header.proofs.flag_ok.Goals as goal

pub returns-then-flag-eq0 : goal.returns-then-flag-eq0
returns-then-flag-eq0 c = search (rules, unset_ok)

pub returns : goal.returns
returns c = search (rules, set_ok)
