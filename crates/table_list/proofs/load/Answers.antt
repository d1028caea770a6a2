use borrow.Author.Rules.{rules}
use Rattle.table_list.proofs.Rows.{sound_held, loaded}
use Rattle.table_list.proofs.load.Goals as goal

pub places-requires : goal.places-requires
places-requires c = (search rules, search (rules, sound_held), search rules)

pub returns : goal.returns
returns c = search (rules, loaded)
