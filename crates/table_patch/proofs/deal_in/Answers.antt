use Rattle.table_patch.proofs.Patching.{others_held, others_row, others_leg, others_space, others_rows, dealt_holds}
use borrow.Author.Rules.{rules}
use Rattle.table_patch.proofs.deal_in.Goals as goal

pub places-k-requires : goal.places-k-requires
places-k-requires c = (search rules, search (rules, others_held), search rules)

pub deal-m-requires : goal.deal-m-requires
deal-m-requires c = record { held = (search (rules, others_row), search (rules, others_leg), search rules); space = (search (rules, others_space), search (rules, others_rows)) }

pub returns : goal.returns
returns c = search (rules, dealt_holds)
