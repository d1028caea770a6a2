use Rattle.replay.proofs.Surveying.{survey_told}
use Rattle.replay.proofs.survey.call_surveyed.Goals as goal

pub returns : goal.returns
returns c =
    survey_told _ _ _ _ _ _ _ _
    c.survey_all-metres.ensures
    c.step_all-steps.ensures
    c.survey_badly-refused.ensures
    c.survey_badly-alike.ensures
