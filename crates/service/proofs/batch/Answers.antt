use mathlib.Core.Path.{sym, subst}
use Rattle.table_rules.specs.Table.{Sound}
use Rattle.service.proofs.Calls.{served_array, refused_batch}
use borrow.Author.Rules.{rules}
use Rattle.service.proofs.batch.Goals as goal

pub carry_out-requires : goal.carry_out-requires
carry_out-requires c = (subst Sound (sym c.in-Some.ensures.cases.same) c.in_default.ensures.1, c.in_default.ensures.2)

pub returns : goal.returns
returns c =
    served_array _ _ _ _ _ _ _ _ _ c.in-Some.ensures.cases.same c.in_default.ensures.0 c.in_default.ensures.1 c.carry_out.ensures

pub returns-in-Err : goal.returns-in-Err
returns-in-Err c = search (rules, refused_batch)
