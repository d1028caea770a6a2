use Rattle.tree_rules.proofs.Roots.{root_ready}
use Rattle.tree_add.proofs.Raising.{root_some, root_enough, plant_kept, plant_open, plant_full, plant_free, plant_low, plant_rise}
use Rattle.tree_add.proofs.root.add_root.Goals as goal

pub insert-requires : goal.insert-requires
insert-requires c = (search root_ready, root_enough _ _ _ c.requires.0 c.requires.1, λ z. root_some _ _ _ c.requires.0)

pub rise-requires : goal.rise-requires
rise-requires c =
    (search plant_open, search plant_full, search plant_free, search plant_low)

pub returns-in-None : goal.returns-in-None
returns-in-None c = plant_kept c.args.r.height c.args.r.node _ c.requires.0 _ _ _ c.in-None.is c.insert.ensures

pub returns-in-Some : goal.returns-in-Some
returns-in-Some c = plant_rise c.args.r.height c.args.r.node _ c.requires.0 _ _ _ _ c.in-Some.is c.insert.ensures _ _ c.rise.ensures
