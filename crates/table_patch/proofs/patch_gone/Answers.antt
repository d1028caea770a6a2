use Rattle.table_patch.proofs.Patching.{patch_gone}
use borrow.Author.Rules.{rules}
use Rattle.table_patch.proofs.patch_gone.Goals as goal

pub returns-else-named : goal.returns-else-named
returns-else-named c = search (rules, patch_gone)
