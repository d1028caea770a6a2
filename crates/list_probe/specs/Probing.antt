-- What the test call promises: for good input the record of the split list, else nothing.
-- Assumes nothing.
use Rattle.std.specs.Prelude.{◌≡◌, List, [], ◌∷◌, ℕ, ◌*◌, ◌≤◌, ◌<◌, length}
use Rattle.limits.specs.Limits.{max_number, max_sites}
use Rattle.words.specs.Words.{Only}
use Rattle.grid.specs.declared.Site.{Site}
use Rattle.grid.specs.declared.Leg.{Leg}
use Rattle.grid.specs.Position.{OnGrid, LegOnGrid}
use Rattle.split.specs.SplitOf.{split_of}
use Rattle.list_row.specs.Vertices.{row_bytes}
use Rattle.records.specs.Bytes.{write}
use Rattle.records.specs.ListRecord.{record_bytes}
use Rattle.list_probe.specs.SiteArray.{probe_bytes, sites_from}

-- a leg by its coordinates
abbrev pub leg_of : ℕ → ℕ → ℕ → ℕ → Leg
leg_of se sn ee en = record { s = record { east = se; north = sn }; e = record { east = ee; north = en } }

-- a site whose number is above m and at most 65,535, and whose position is on the grid
pub record NextSite (m : ℕ) (p : Site) : Type 0 where
  pub above : m < p.number
  pub small : p.number ≤ max_number
  pub on_grid : OnGrid p.position

-- the numbers rise, from above m, and the positions are on the grid
abbrev pub Orderly : ℕ → List Site → Type 0
Orderly m [] = Unit {0}
Orderly m (p ∷ s) = NextSite m p × Orderly p.number s

-- a list can be built over the n records at the beginning of t, with so much room for work
pub record Buildable (t : List ℕ) (n : ℕ) (l : Leg) (room : ℕ) : Type 0 where
  pub few : n ≤ max_sites
  pub inside : probe_bytes * n ≤ length t
  pub work : row_bytes ≤ room
  pub leg : LegOnGrid l
  pub sites : Orderly 0 (sites_from t 0 n)

-- the record of the split list of a leg over those records
abbrev pub probe_record : List ℕ → ℕ → Leg → List ℕ
probe_record t n l = record_bytes (split_of l (sites_from t 0 n))

-- the report b' begins with the record and has all else as before, or it has no room and is as before; of the work
-- buffer only one row is written
pub record Written (t : List ℕ) (n : ℕ) (l : Leg) (w w' b b' : List ℕ) (r : ℕ) : Type 0 where
  pub wrote : length (probe_record t n l) ≤ length b → (r ≡ length (probe_record t n l)) × (b' ≡ write b 0 (probe_record t n l))
  pub no_room : length b < length (probe_record t n l) → (r ≡ 0) × (b' ≡ b)
  pub only : Only 0 row_bytes w w'

-- THE PROMISE: so for good input; for other input 0, and both buffers as before
pub record Probed (t : List ℕ) (n : ℕ) (l : Leg) (w w' b b' : List ℕ) (r : ℕ) : Type 0 where
  pub good : Buildable t n l (length w) → Written t n l w w' b b' r
  pub refused : ¬ Buildable t n l (length w) → (r ≡ 0) × (b' ≡ b) × (w' ≡ w)
