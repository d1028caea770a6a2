use Rattle.list_skip.proofs.Witnesses.{gap_small, looked}
use Rattle.list_skip.proofs.covers.Goals as goal

pub tell-requires : goal.tell-requires
tell-requires c = (gap_small _ _ _ _ _ _ c.cut_near.ensures, c.requires)

pub returns : goal.returns
returns c = looked c.cut_near.result c.requires c.cut_near.ensures c.tell.ensures
