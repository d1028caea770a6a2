use Rattle.table_patch.proofs.Patching.{along_is, unset_holds}
use borrow.Author.Rules.{rules}
use Rattle.table_patch.proofs.deal_site.Goals as goal

pub deal_along-requires : goal.deal_along-requires
deal_along-requires c = record { whole = (search rules, search rules, search (rules, along_is), search rules); lists_others = search rules }

pub returns-in_default : goal.returns-in_default
returns-in_default c = search (rules, unset_holds)
