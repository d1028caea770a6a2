use Rattle.table_change.proofs.Accepting.{ended_whole, ended_idle, ended_nowhere, ended_room, add_patch, add_stands, add_done}
use borrow.Author.Rules.{rules}
use Rattle.table_change.proofs.insert.Goals as goal

pub grow-requires : goal.grow-requires
grow-requires c = record { whole = (search (rules, ended_whole), search (rules, ended_idle), search (rules, ended_nowhere), search (rules, ended_room)); number_ok = search rules }

pub patch_held-requires : goal.patch_held-requires
patch_held-requires c = (search (rules, add_patch), search (rules, add_stands), search rules)

pub returns : goal.returns
returns c = search (rules, add_done)
