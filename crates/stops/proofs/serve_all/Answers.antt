use borrow.Author.Rules.{rules}
use Rattle.stops.proofs.Running.{laid_sound}
use Rattle.stops.proofs.serve_all.Goals as goal

pub run-requires : goal.run-requires
run-requires g c = (search (rules, laid_sound), search rules)
