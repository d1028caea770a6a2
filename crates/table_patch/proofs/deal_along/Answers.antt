use Rattle.table_patch.proofs.Patching.{others_held, others_leg, shut_holds}
use borrow.Author.Rules.{rules}
use Rattle.table_patch.proofs.deal_along.Goals as goal

pub vertex_at-x-requires : goal.vertex_at-x-requires
vertex_at-x-requires c = (search rules, search (rules, others_leg))

pub end_shuts-requires : goal.end_shuts-requires
end_shuts-requires c = record { t_len = (search rules, search (rules, others_held)); leg_on_grid = (search (rules, others_leg), search rules) }

pub returns-then-end_shuts : goal.returns-then-end_shuts
returns-then-end_shuts c = search (rules, shut_holds)
