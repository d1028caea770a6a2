-- The search of a leg over the tree. Document 01, "The tree": "A node is read by reading its entries, and an entry
-- above the leaves by reading its child node." Which entry is read first, and which subtrees are skipped, shows
-- nowhere here: whatever the search skips, its list is that of all sites.
-- Assumes nothing.
use Rattle.std.specs.Prelude.{◌≡◌, List, ◌++◌, ℕ, ◌+◌, ◌≤◌, ◌<◌, length, get_or}
use Rattle.limits.specs.Limits.{max_sites, max_nodes, table_bytes}
use Rattle.words.specs.Words.{Only}
use Rattle.grid.specs.declared.Site.{Site}
use Rattle.grid.specs.declared.Corner.{Corner}
use Rattle.grid.specs.declared.Leg.{Leg}
use Rattle.grid.specs.Position.{LegOnGrid}
use Rattle.grid.specs.Area.{area_distance}
use Rattle.split.specs.Skip.{ShutOut}
use Rattle.list_row.specs.Vertices.{row_bytes, stack, Held, Lists}
use Rattle.list_skip.specs.Skipping.{Knows, IsCorner}
use Rattle.tree_node.specs.declared.NodeEntry.{NodeEntry}
use Rattle.tree_node.specs.Node.{entries, no_entry}
use Rattle.tree_rules.specs.Tree.{joined, leaves, Each, SoundUnder}
use Rattle.tree_rules.specs.Rooted.{leaves_in}
use Rattle.tree_search.specs.declared.descent.Progress.{Progress}
use Rattle.tree_search.specs.Sites.{LeafPoint, sites, area_of}

-- entry i of node n
abbrev pub entry_of : List ℕ → ℕ → ℕ → NodeEntry
entry_of t n i = get_or (entries t n) i no_entry

-- the leaf entries under l, which stand at height h
abbrev pub under : List ℕ → ℕ → List NodeEntry → List NodeEntry
under t h l = joined (leaves (entries t) h) l

-- j comes after i where the first of m follows the last
pub record ComesNext (m i j : ℕ) : Type 0 where
  pub inner : i + 1 < m → j ≡ i + 1
  pub last : m ≤ i + 1 → j ≡ 0

-- the first m of far are the corners of the boxes of node n's entries
pub record Measured (l : Leg) (t : List ℕ) (n m : ℕ) (far : List Corner) : Type 0 where
  pub is : (i : ℕ) → i < m → IsCorner l (area_of (entry_of t n i)) (get_or far i (record { a = 0; c = 0 }))

-- the row shuts out all that lies in e's box
abbrev pub Skips : Leg → List ℕ → List ℕ → ℕ → NodeEntry → Type 0
Skips l t r k e = ShutOut (stack l t r k) (area_distance (area_of e) l.s) (area_distance (area_of e) l.e)

-- node n, whose entries stand at height h, may be read
pub record Readable (t : List ℕ) (h n : ℕ) : Type 0 where
  pub len : length t ≡ table_bytes
  pub id : n < max_nodes
  pub sound : Each (SoundUnder (entries t) h) (entries t n)

-- the leaf entries q are sites on the grid, and the row r of k has room for them all
pub record Ahead (l : Leg) (t r : List ℕ) (k : ℕ) (q : List NodeEntry) : Type 0 where
  pub leg : LegOnGrid l
  pub held : Held l t r k
  pub rows : row_bytes ≤ length r
  pub points : Each LeafPoint q
  pub room : k + length q ≤ max_sites

-- the row r' has the list of some more sites than the row r: those of the leaf entries q
pub record Searched (l : Leg) (t r : List ℕ) (k : ℕ) (q : List NodeEntry) (r' : List ℕ) (n : ℕ) : Type 0 where
  pub within : n ≤ k + length q
  pub held : Held l t r' n
  pub lists : (s : List Site) → Lists l t r k s → Lists l t r' n (sites q ++ s)
  pub only : Only 0 row_bytes r r'

-- one entry after the other: the row r' has the list of the sites q as well, and the edge in s is known to it
pub record Progressed (l : Leg) (t r : List ℕ) (k : ℕ) (q : List NodeEntry) (r' : List ℕ) (s : Progress) : Type 0 where
  pub searched : Searched l t r k q r' s.k
  pub knows : Knows s.edge (stack l t r' s.k)

-- the row r' has the list of all the tree's sites
pub record ListsTree (l : Leg) (t r r' : List ℕ) (n : ℕ) : Type 0 where
  pub within : n ≤ length (leaves_in t)
  pub held : Held l t r' n
  pub lists : Lists l t r' n (sites (leaves_in t))
  pub only : Only 0 row_bytes r r'
