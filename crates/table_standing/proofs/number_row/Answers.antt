use borrow.Author.Rules.{rules}
use native.Mathlib.Omega.{arith}
use Rattle.table_standing.proofs.Numbers.{numbering_one, site_there}
use Rattle.table_standing.proofs.number_row.Goals as goal

pub number_in-n-requires : goal.number_in-n-requires
number_in-n-requires c = (omega arith, search (rules, site_there))

pub loop-i-preserved : goal.loop-i-preserved
loop-i-preserved c = search (rules, numbering_one)
