-- The entries that a row stands for, one by one.
-- Assumes nothing.
use Rattle.std.specs.Prelude.{List, ℕ, zero, suc, drop}
use Rattle.grid.specs.declared.Fraction.{Fraction}
use Rattle.grid.specs.declared.Leg.{Leg}
use Rattle.grid.specs.Fraction.{zero_fraction}
use Rattle.split.specs.SplitList.{Entry}
use Rattle.split.specs.SplitOf.{changeover}
use Rattle.list_row.specs.Places.{site_at}
use Rattle.list_row.specs.Vertices.{place_at, vertex_in, entries_in}

-- where the stretch of the vertex at i starts
abbrev pub start_at : Leg → List ℕ → List ℕ → ℕ → Fraction
start_at l t r zero = zero_fraction
start_at l t r (suc i) = changeover (vertex_in l t r i) (vertex_in l t r (suc i))

-- the entry of the vertex at i
abbrev pub row_entry : Leg → List ℕ → List ℕ → ℕ → Entry
row_entry l t r i = record { site = site_at t (place_at r i); start = start_at l t r i }

-- the entries of the first k, without those before the one at j
abbrev pub entries_from : Leg → List ℕ → List ℕ → ℕ → ℕ → List Entry
entries_from l t r j k = drop j (entries_in l t r k)
