use Rattle.std.proofs.Common.{rules}
use Rattle.tree_remove.proofs.Finding.{next_told}
use Rattle.tree_remove.proofs.take.next_holding.Goals as goal

pub returns : goal.returns
returns c = next_told _ _ (λ f t r. search rules) _ _ _ c.next_where.ensures
