use Rattle.call_judge.proofs.Deciding.{settled_decided, decided_same}
use borrow.Author.Rules.{rules}
use Rattle.call_judge.proofs.judge.Goals as goal

pub returns-in-Add : goal.returns-in-Add
returns-in-Add c = search (rules, settled_decided)

pub returns-in-Remove : goal.returns-in-Remove
returns-in-Remove c = search (rules, settled_decided)

pub returns-in-Move : goal.returns-in-Move
returns-in-Move c = search (rules, settled_decided)

pub returns-in-List : goal.returns-in-List
returns-in-List c = search (rules, decided_same)

pub returns-in-Stand : goal.returns-in-Stand
returns-in-Stand c = search (rules, settled_decided)

pub returns-in-Print : goal.returns-in-Print
returns-in-Print c = search (rules, decided_same)

pub returns-in-Begin : goal.returns-in-Begin
returns-in-Begin c = search (rules, settled_decided)

pub returns-in-Corner : goal.returns-in-Corner
returns-in-Corner c = search (rules, decided_same)
