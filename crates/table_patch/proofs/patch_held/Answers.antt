use Rattle.table_patch.proofs.Patching.{patch_others}
use borrow.Author.Rules.{rules}
use Rattle.table_patch.proofs.patch_held.Goals as goal

pub deal_site-requires : goal.deal_site-requires
deal_site-requires c = record { whole = search rules; lists_others = (search (rules, patch_others), search rules) }
