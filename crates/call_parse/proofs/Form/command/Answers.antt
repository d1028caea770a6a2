use borrow.Author.Rules.{rules}
use Rattle.call_parse.proofs.Form.command.Goals as goal

pub returns-in-Add : goal.returns-in-Add
returns-in-Add c = rw c.in-Add.is (search rules)

pub returns-in-Remove : goal.returns-in-Remove
returns-in-Remove c = rw c.in-Remove.is (search rules)

pub returns-in-Move : goal.returns-in-Move
returns-in-Move c = rw c.in-Move.is (search rules)

pub returns-in-List : goal.returns-in-List
returns-in-List c = rw c.in-List.is (search rules)

pub returns-in-Stand : goal.returns-in-Stand
returns-in-Stand c = rw c.in-Stand.is (search rules)

pub returns-in-Print : goal.returns-in-Print
returns-in-Print c = rw c.in-Print.is (search rules)

pub returns-in-Begin : goal.returns-in-Begin
returns-in-Begin c = rw c.in-Begin.is (search rules)

pub returns-in-Corner : goal.returns-in-Corner
returns-in-Corner c = rw c.in-Corner.is (search rules)

pub returns-in-AddSurveyed : goal.returns-in-AddSurveyed
returns-in-AddSurveyed c = rw c.in-AddSurveyed.is (search rules)

pub returns-in-MoveSurveyed : goal.returns-in-MoveSurveyed
returns-in-MoveSurveyed c = rw c.in-MoveSurveyed.is (search rules)
