-- The marks of what a walk has met: a byte for each node of the pool, then one for each record of the site array, 0
-- or 1. Behind them stand hints, of which nothing is demanded.
-- Assumes nothing.
use Rattle.std.specs.Prelude.{List, ◌≡◌, ℕ, ◌+◌, ◌≤◌, ◌<◌, get_or}
use Rattle.limits.specs.Limits.{max_sites, max_nodes}
use Rattle.table_sites.specs.Lines.{Array}
use Rattle.tree_node.specs.Free.{free}
use Rattle.tree_node.specs.Tally.{tally, Within}

-- the marks
abbrev pub mark_bytes : ℕ
mark_bytes = max_nodes + max_sites

-- the hints: a byte for each remainder of a number by so many
abbrev pub hint_bytes : ℕ
hint_bytes = 1024

-- the lent bytes: the marks, and behind them the hints
abbrev pub seen_bytes : ℕ
seen_bytes = mark_bytes + hint_bytes

-- the mark of record k
abbrev pub record_mark : ℕ → ℕ
record_mark k = max_nodes + k

-- no mark is set
unfoldable pub Blank : List ℕ → Type 0
Blank o = (m : ℕ) → m < mark_bytes → get_or o m 0 ≡ 0

-- each of the first l marks is set
unfoldable pub Full : ℕ → List ℕ → Type 0
Full l o = (m : ℕ) → m < l → 0 < get_or o m 0

-- f tells how often each mark is asked for: none that is set, and none twice
unfoldable pub Fresh : (ℕ → ℕ) → List ℕ → Type 0
Fresh f o = (m : ℕ) → m < mark_bytes → get_or o m 0 + f m ≤ 1

-- o' is o with the marks that f tells
unfoldable pub Marked : (ℕ → ℕ) → List ℕ → List ℕ → Type 0
Marked f o o' = (m : ℕ) → m < mark_bytes → get_or o' m 0 ≡ get_or o m 0 + f m

-- each mark is 0 or 1
unfoldable pub Bits : List ℕ → Type 0
Bits o = (m : ℕ) → m < mark_bytes → get_or o m 0 ≤ 1

-- the table b and the marks o, as a walk needs them
pub record Prepared (b o : List ℕ) : Type 0 where
  pub array : Array b
  pub bits : Bits o

-- each free node is one of the pool, and none is marked or free twice
pub record FreePass (b o : List ℕ) : Type 0 where
  pub within : Within max_nodes (free b)
  pub fresh : Fresh (λ m. tally m (free b)) o
