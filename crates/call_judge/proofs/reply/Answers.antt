use Rattle.call_judge.proofs.Deciding.{refuse_answer, show_answer, follow_answer}
use borrow.Author.Rules.{rules}
use Rattle.call_judge.proofs.reply.Goals as goal

pub returns-in-Err : goal.returns-in-Err
returns-in-Err c = search (rules, refuse_answer)

pub returns-in-Ok-Show : goal.returns-in-Ok-Show
returns-in-Ok-Show c = search (rules, show_answer)

pub returns-in-Ok-Follow : goal.returns-in-Ok-Follow
returns-in-Ok-Follow c = search (rules, follow_answer)
