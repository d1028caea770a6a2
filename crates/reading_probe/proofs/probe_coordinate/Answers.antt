use Rattle.readings.proofs.Answers.{finite_told}
use Rattle.reading_probe.proofs.Asked.{probed_finite, probed_not}
use Rattle.reading_probe.proofs.probe_coordinate.Goals as goal

pub coordinate-requires : goal.coordinate-requires
coordinate-requires c = search finite_told

pub returns-then-is_finite : goal.returns-then-is_finite
returns-then-is_finite c = rw c.from.ensures (search probed_finite)

pub returns : goal.returns
returns c = search probed_not
