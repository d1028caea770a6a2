use Rattle.readings.proofs.Answers.{reading_is}
use Rattle.readings.proofs.reading_at.Goals as goal

pub returns : goal.returns
returns c = search reading_is
