use Rattle.call_serve.proofs.Recording.{done_sized, refusal_sized, size_left, size_few, list_sized}
use borrow.Author.Rules.{rules}
use Rattle.call_serve.proofs.record.size.Goals as goal

pub overflow_sub-k : goal.overflow_sub-k
overflow_sub-k c = search (rules, size_left)

pub list_size-requires : goal.list_size-requires
list_size-requires c = search (rules, size_few)

pub returns-in-Done : goal.returns-in-Done
returns-in-Done c = search (rules, done_sized)

pub returns-in-Refused : goal.returns-in-Refused
returns-in-Refused c = search (rules, refusal_sized)

pub returns-in-Listed : goal.returns-in-Listed
returns-in-Listed c = search (rules, list_sized)
