use Rattle.call_serve.proofs.Carrying.{insert_nowhere, insert_room, insert_number, insert_grid, delete_at, place_at_lem, place_grid, stand_grid, begin_grid, follow_found, refused_left, shown_left, inserted, deleted, placed, stood, begun, followed}
use borrow.Author.Rules.{rules}
use Rattle.call_serve.proofs.carry.carry.Goals as goal

pub insert-requires : goal.insert-requires
insert-requires c = record { sound = (search rules, search (rules, insert_nowhere), search (rules, insert_room)); number_ok = (search (rules, insert_number), search (rules, insert_grid), search rules) }

pub delete-requires : goal.delete-requires
delete-requires c = (search rules, search (rules, delete_at), search rules)

pub place-requires : goal.place-requires
place-requires c = (search rules, search (rules, place_at_lem), search (rules, place_grid), search rules)

pub stand-requires : goal.stand-requires
stand-requires c = (search rules, search (rules, stand_grid), search rules)

pub begin-requires : goal.begin-requires
begin-requires c = (search rules, search (rules, begin_grid))

pub follow-requires : goal.follow-requires
follow-requires c = (search rules, search (rules, follow_found))

pub returns-in-Err : goal.returns-in-Err
returns-in-Err c = search (rules, refused_left)

pub returns-in-Ok-Show : goal.returns-in-Ok-Show
returns-in-Ok-Show c = search (rules, shown_left)

pub returns-in-Ok-Insert : goal.returns-in-Ok-Insert
returns-in-Ok-Insert c = search (rules, inserted)

pub returns-in-Ok-Delete : goal.returns-in-Ok-Delete
returns-in-Ok-Delete c = search (rules, deleted)

pub returns-in-Ok-Place : goal.returns-in-Ok-Place
returns-in-Ok-Place c = search (rules, placed)

pub returns-in-Ok-Stand : goal.returns-in-Ok-Stand
returns-in-Ok-Stand c = search (rules, stood)

pub returns-in-Ok-Begin : goal.returns-in-Ok-Begin
returns-in-Ok-Begin c = search (rules, begun)

pub returns-in-Ok-Follow : goal.returns-in-Ok-Follow
returns-in-Ok-Follow c = search (rules, followed)
