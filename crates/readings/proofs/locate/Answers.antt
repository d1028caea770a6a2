use Rattle.std.proofs.Common.{rules}
use Rattle.readings.proofs.Answers.{located_steps, located_metres}
use Rattle.readings.proofs.locate.Goals as goal

pub returns-in-InSteps : goal.returns-in-InSteps
returns-in-InSteps c = search (rules, located_steps)

pub returns-in-InMetres : goal.returns-in-InMetres
returns-in-InMetres c = search (rules, located_metres)
