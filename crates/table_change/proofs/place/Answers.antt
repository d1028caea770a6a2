use Rattle.table_change.proofs.Accepting.{ended_whole, ended_idle, ended_at, move_patch, move_stands, move_done}
use borrow.Author.Rules.{rules}
use Rattle.table_change.proofs.place.Goals as goal

pub relocate-requires : goal.relocate-requires
relocate-requires c = (search (rules, ended_whole), search (rules, ended_idle), search (rules, ended_at), search rules)

pub patch_held-requires : goal.patch_held-requires
patch_held-requires c = (search (rules, move_patch), search (rules, move_stands), search rules)

pub returns : goal.returns
returns c = search (rules, move_done)
