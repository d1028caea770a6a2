use Rattle.table_change.proofs.Accepting.{ended_whole, ended_idle, ended_at, remove_patch, remove_gone, remove_done}
use borrow.Author.Rules.{rules}
use Rattle.table_change.proofs.delete.Goals as goal

pub shrink-requires : goal.shrink-requires
shrink-requires c = (search (rules, ended_whole), search (rules, ended_idle), search (rules, ended_at))

pub patch_gone-requires : goal.patch_gone-requires
patch_gone-requires c = (search (rules, remove_patch), search (rules, remove_gone), search rules)

pub returns : goal.returns
returns c = search (rules, remove_done)
