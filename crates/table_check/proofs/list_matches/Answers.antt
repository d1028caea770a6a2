use borrow.Author.Rules.{rules}
use Rattle.table_check.proofs.Matching.{matched_none, matched_one, matched_all, other_length, other_number}
use Rattle.table_check.proofs.list_matches.Goals as goal

pub returns-then-n-k : goal.returns-then-n-k
returns-then-n-k c = search (rules, other_length)

pub loop-i-init : goal.loop-i-init
loop-i-init c = search (rules, matched_none)

pub returns-then-number-stored : goal.returns-then-number-stored
returns-then-number-stored c = search (rules, other_number)

pub loop-i-preserved : goal.loop-i-preserved
loop-i-preserved c = search (rules, matched_one)

pub returns : goal.returns
returns c = search (rules, matched_all)
