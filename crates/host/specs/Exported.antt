-- The exported calls say what the proved calls say: document 01's numbers are what they return. Document 01,
-- "Causes and numbers".
-- Assumes nothing.
use Rattle.std.specs.Prelude.{List, ℕ}
use Rattle.demands.specs.Batch.{returns, Batch}

-- a batch: the reason's number is returned, and the counts are set, whatever it is
abbrev pub ExportedBatch : List ℕ → List ℕ → List ℕ → List ℕ → ℕ → ℕ → ℕ → List ℕ → List ℕ → List ℕ → Type 0
ExportedBatch t w cs rep r used written t' w' rep' = Batch t w cs rep (returns r used written) t' w' rep'
