-- ALL THE DEMANDS, proved over the definitions of the calls' contracts alone.
-- Assumes nothing.
use Rattle.demands.specs.Demands.{Demands}
use Rattle.demands.proofs.WholeRun.{alike}
use Rattle.demands.proofs.Demand1.{demand1, demand1_laid}
use Rattle.demands.proofs.Demand2.{demand2}
use Rattle.demands.proofs.Demand3.{demand3}
use Rattle.demands.proofs.Tours.{tours}

-- THE DEMANDS
pub demands : Demands
demands = record { one = demand1; laying_out = demand1_laid; two = demand2; three = demand3; tours = tours; choices = alike }
