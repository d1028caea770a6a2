use Rattle.replay.proofs.Surveying.{survey_begun}
use borrow.Author.Rules.{rules}
use Rattle.replay.proofs.survey.begin.Goals as goal

pub returns : goal.returns
returns c = search (rules, survey_begun)
