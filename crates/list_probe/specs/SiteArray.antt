-- A site array: records of 8 bytes, each a site record and two bytes that are not read here. And what building a list
-- over it does.
-- Assumes nothing.
use Rattle.std.specs.Prelude.{◌≡◌, List, [], ◌∷◌, ℕ, zero, suc, ◌+◌, ◌*◌, ◌%◌, ◌≤◌, length}
use Rattle.limits.specs.Limits.{max_sites}
use Rattle.words.specs.Words.{Only}
use Rattle.grid.specs.declared.Site.{Site}
use Rattle.grid.specs.declared.Leg.{Leg}
use Rattle.split.specs.SplitList.{Numbered, SitesOnGrid}
use Rattle.split.specs.SplitOf.{split_of}
use Rattle.list_row.specs.Places.{site_at_byte}
use Rattle.list_row.specs.Vertices.{row_bytes, Held, entries_in}

-- the bytes of a record
abbrev pub probe_bytes : ℕ
probe_bytes = 8

-- the sites of n records from byte i on, in their order
unfoldable pub sites_from : List ℕ → ℕ → ℕ → List Site
sites_from t i zero = []
sites_from t i (suc n) = site_at_byte t i ∷ sites_from t (i + probe_bytes) n

-- n records stand from byte i on, with numbers of their own and positions on the grid; i is even and small enough for
-- places
pub record HasSites (t : List ℕ) (i n : ℕ) : Type 0 where
  pub few : n ≤ max_sites
  pub inside : i + probe_bytes * n ≤ length t
  pub even : i % 2 ≡ 0
  pub small : i + probe_bytes * n ≤ 131072
  pub numbered : Numbered (sites_from t i n)
  pub on_grid : SitesOnGrid (sites_from t i n)

-- THE ROW HAS THE SPLIT LIST OF THE ARRAY'S SITES: its first r vertices stand for it
pub record Built (l : Leg) (t : List ℕ) (i n : ℕ) (w w' : List ℕ) (r : ℕ) : Type 0 where
  pub within : r ≤ n
  pub held : Held l t w' r
  pub is : entries_in l t w' r ≡ split_of l (sites_from t i n)
  pub only : Only 0 row_bytes w w'
