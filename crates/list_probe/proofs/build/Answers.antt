use native.Mathlib.Omega.{arith}
use Rattle.list_probe.proofs.Building.{built_none, build_asks, build_space, build_one, built_all}
use Rattle.list_probe.proofs.build.Goals as goal

pub loop-i-init : goal.loop-i-init
loop-i-init c = search built_none

pub deal-k-requires : goal.deal-k-requires
deal-k-requires c = record { held = (c.loop-i.invariant.held, c.requires.1, build_asks c.loop-i.invariant c.requires.0 (omega arith)); space = (build_space c.loop-i.invariant c.requires.0 (omega arith), omega (arith, c.requires.2, c.loop-i.invariant.only.len)) }

pub loop-i-preserved : goal.loop-i-preserved
loop-i-preserved c = build_one c.loop-i.invariant c.requires.0 (omega (arith, c.loop-i-test)) c.deal-k.ensures

pub returns : goal.returns
returns c = built_all c.loop-i.invariant c.requires.0 (omega arith)
