use Rattle.table_admit.proofs.Admitting.{wrong_table, by_work}
use borrow.Author.Rules.{rules}
use Rattle.table_admit.proofs.lengths_ok.Goals as goal

pub returns-else-table-eq-TABLE_BYTES : goal.returns-else-table-eq-TABLE_BYTES
returns-else-table-eq-TABLE_BYTES c = search (rules, wrong_table)

pub returns-then-table-eq-TABLE_BYTES : goal.returns-then-table-eq-TABLE_BYTES
returns-then-table-eq-TABLE_BYTES c = search (rules, by_work)
