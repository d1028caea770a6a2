-- What a walk over the tree tests.
-- Assumes nothing.
use Rattle.std.specs.Prelude.{List, ◌≡◌, ℕ, ◌+◌, ◌≤◌, length, Option, None, Some}
use Rattle.limits.specs.Limits.{min_entries, max_levels}
use Rattle.grid.specs.declared.Site.{Site}
use Rattle.table_sites.specs.Lines.{lines_in}
use Rattle.tree_node.specs.declared.NodeEntry.{NodeEntry}
use Rattle.tree_node.specs.declared.Top.{Top}
use Rattle.tree_node.specs.Boxes.{hull}
use Rattle.tree_node.specs.Node.{entries}
use Rattle.tree_node.specs.Tally.{total, hit, tally}
use Rattle.tree_rules.specs.Tree.{joined, leaves, nodes, Each, SoundUnder}
use Rattle.tree_rules.specs.Rooted.{tree_leaves, tree_nodes, RootSound}
use Rattle.tree_check.specs.Leaves.{index_of, Known}
use Rattle.tree_check.specs.Marks.{record_mark, Fresh}

-- how often mark m is asked for by the nodes N and the leaf entries L, where s are the lines
unfoldable pub asked_for : List Site → List ℕ → List NodeEntry → ℕ → ℕ
asked_for s N L m = tally m N + total (λ e. hit m (record_mark (index_of s e.reference))) L

-- how often mark m is asked for by what lies under the entries l, which stand at height h
unfoldable pub met : List ℕ → ℕ → List NodeEntry → ℕ → ℕ
met b h l = asked_for (lines_in b) (joined (nodes (entries b) h) l) (joined (leaves (entries b) h) l)

-- the entries l, which stand at height h, keep the tree's rules, their leaf entries are those of lines, and nothing
-- is met twice
pub record Pass (b : List ℕ) (h : ℕ) (l : List NodeEntry) (o : List ℕ) : Type 0 where
  pub sound : Each (SoundUnder (entries b) h) l
  pub known : Each (Known (lines_in b)) (joined (leaves (entries b) h) l)
  pub fresh : Fresh (met b h l) o

-- e's child node keeps the rules on nodes, but for what its entries refer to
pub record Fits (b : List ℕ) (e : NodeEntry) : Type 0 where
  -- "Each box is the smallest that holds what lies under it"
  pub box : e ≡ hull e.reference (entries b e.reference)
  -- "A node other than the root holds at least 3"
  pub least : min_entries ≤ length (entries b e.reference)

-- the root c, whose entries stand at height g, has as many as a root has to have
pub record Enough (b : List ℕ) (g c : ℕ) : Type 0 where
  -- "a root that is no leaf holds at least 2"
  pub two : (g ≡ 0 → ⊥) → 2 ≤ length (entries b c)
  -- a tree that holds nothing has no node
  pub one : 1 ≤ length (entries b c)

-- "There are at most six levels"
unfoldable pub Low : Option Top → Type 0
Low None = Unit {0}
Low (Some x) = x.height + 1 ≤ max_levels

-- how often mark m is asked for by the tree under r
unfoldable pub root_met : List ℕ → Option Top → ℕ → ℕ
root_met b r = asked_for (lines_in b) (tree_nodes (entries b) r) (tree_leaves (entries b) r)

-- the tree under r keeps its rules, its leaf entries are those of lines, and nothing is met twice
pub record RootPass (b : List ℕ) (r : Option Top) (o : List ℕ) : Type 0 where
  pub top : RootSound (entries b) r
  pub low : Low r
  pub known : Each (Known (lines_in b)) (tree_leaves (entries b) r)
  pub fresh : Fresh (root_met b r) o
