use borrow.Author.Rules.{rules}
use Prim.Native.Nat.{◌-◌}
use Rattle.call_serve.proofs.Carrying.{decided_found, decided_row}
use Rattle.call_serve.proofs.Turns.{turn_few, serving_none, serving_sound, serving_fits, turn_fits, turn_room, ended_all, ended_unknown, ended_cut, ended_full, fewer_left, serving_one}
use Rattle.call_serve.proofs.serve.Goals as goal

pub loop-c-init : goal.loop-c-init
loop-c-init c = (search (rules, serving_none), search rules, search rules)

pub returns-in-End : goal.returns-in-End
returns-in-End c = search (rules, ended_all)

pub returns-in-Unknown : goal.returns-in-Unknown
returns-in-Unknown c = search (rules, ended_unknown)

pub returns-in-Cut : goal.returns-in-Cut
returns-in-Cut c = search (rules, ended_cut)

pub judge-v-requires : goal.judge-v-requires
judge-v-requires c = (search (rules, serving_sound), search rules)

pub size-size-requires : goal.size-size-requires
size-size-requires c = search (rules, turn_few)

pub overflow_sub-report : goal.overflow_sub-report
overflow_sub-report c = search (rules, serving_fits)

pub returns-then-report-written : goal.returns-then-report-written
returns-then-report-written c = search (rules, ended_full)

pub overflow_add-upto : goal.overflow_add-upto
overflow_add-upto c = search (rules, turn_room, serving_fits)

pub obey-requires : goal.obey-requires
obey-requires c = record { sound = (search (rules, serving_sound), search rules); findings = (search (rules, decided_found), search (rules, decided_row), search (rules, turn_fits, serving_fits)) }

pub loop-c-smaller : goal.loop-c-smaller
loop-c-smaller c = search (rules, fewer_left)

pub loop-c-preserved : goal.loop-c-preserved
loop-c-preserved c = (search (rules, serving_one), search rules, search rules)
