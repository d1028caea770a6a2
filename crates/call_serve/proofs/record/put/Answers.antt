use Rattle.call_serve.proofs.Recording.{one_fits, put_done, refusal_fits, put_refused, list_fits, list_held, list_leg, list_left, put_listed}
use borrow.Author.Rules.{rules}
use Rattle.call_serve.proofs.record.put.Goals as goal

pub put_done-requires : goal.put_done-requires
put_done-requires c = search (rules, one_fits)

pub put_refusal-requires : goal.put_refusal-requires
put_refusal-requires c = search (rules, refusal_fits)

pub invariant_of-row : goal.invariant_of-row
invariant_of-row c = record { held = search (rules, list_held); on_grid = search (rules, list_leg) }

pub put_list-requires : goal.put_list-requires
put_list-requires c = (search (rules, list_left), search (rules, list_fits))

pub returns-in-Done : goal.returns-in-Done
returns-in-Done c = search (rules, put_done)

pub returns-in-Refused : goal.returns-in-Refused
returns-in-Refused c = search (rules, put_refused)

pub returns-in-Listed : goal.returns-in-Listed
returns-in-Listed c = search (rules, put_listed)
