use Rattle.std.proofs.Common.{rules}
use Rattle.tree_check.proofs.Marking.{blank_filled}
use Rattle.tree_check.proofs.marks.clear.Goals as goal

pub returns : goal.returns
returns c = blank_filled _ _ (search rules) (c.fill.ensures.after (λ h h'. h'))
