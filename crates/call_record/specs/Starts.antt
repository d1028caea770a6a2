-- The start of an entry on its way to a record: not yet reduced, and as bytes.
-- Assumes nothing.
use Rattle.std.specs.Prelude.{◌≡◌, List, ◌++◌, ℕ, ◌^◌, ◌<◌}
use Rattle.grid.specs.declared.Fraction.{Fraction}
use Rattle.grid.specs.declared.Leg.{Leg}
use Rattle.grid.specs.Fraction.{lowest}
use Rattle.list_row.specs.Entries.{start_at}
use Rattle.records.specs.Bytes.{bytes2, bytes4}

-- in lowest terms, q is where the stretch of the vertex at i starts
pub record RatioAt (l : Leg) (t r : List ℕ) (i : ℕ) (q : Fraction) : Type 0 where
  pub positive : 0 < q.den
  pub small : q.num < 2 ^ 31
  pub start : lowest q.num q.den ≡ start_at l t r i

-- the bytes of an entry: the site's number n, the start s
unfoldable pub start_bytes : ℕ → Fraction → List ℕ
start_bytes n s = bytes2 n ++ bytes4 s.num ++ bytes4 s.den
