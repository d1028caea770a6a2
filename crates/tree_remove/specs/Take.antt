-- What looking for a leaf entry and taking it needs, and what it does.
-- Assumes nothing.
use Rattle.std.specs.Prelude.{◌≡◌, Bool, true, false, Option, None, Some, List, ℕ, suc, ◌+◌, ◌≤◌, ◌<◌, length, get_or}
use Rattle.limits.specs.Limits.{max_nodes, table_bytes}
use Rattle.words.specs.Words.{Only}
use Rattle.tree_node.specs.declared.NodeEntry.{NodeEntry}
use Rattle.tree_node.specs.Layout.{free_start}
use Rattle.tree_node.specs.Node.{entries, no_entry}
use Rattle.tree_node.specs.Free.{free}
use Rattle.tree_node.specs.Tally.{total, tally}
use Rattle.tree_rules.specs.Tree.{joined, leaves, leaves_at, nodes_at, Each, SoundUnder}
use Rattle.tree_rules.specs.Change.{Ready}

-- none of the entries of l from k up to i has what P asks
pub record Passed (P : NodeEntry → Type 0) (l : List NodeEntry) (k i : ℕ) : Type 0 where
  pub least : k ≤ i
  pub most : i ≤ length l
  pub none : (j : ℕ) → k ≤ j → j < i → P (get_or l j no_entry) → ⊥

-- i is the first entry of l from k on that has what P asks, or how many entries l has where there is none
pub record First (P : NodeEntry → Type 0) (l : List NodeEntry) (k i : ℕ) : Type 0 where
  pub passed : Passed P l k i
  pub here : i < length l → P (get_or l i no_entry)

-- r is the first entry of l from k on that has what P asks; None where there is none
unfoldable pub Next : (NodeEntry → Type 0) → List NodeEntry → ℕ → Option ℕ → Type 0
Next P l k None = First P l k (length l)
Next P l k (Some i) = First P l k i × (i < length l)

-- the answer R to each of the entries of l from k up to i is no
pub record Denied (R : NodeEntry → Bool → Type 0) (l : List NodeEntry) (k i : ℕ) : Type 0 where
  pub least : k ≤ i
  pub most : i ≤ length l
  pub none : (j : ℕ) → k ≤ j → j < i → R (get_or l j no_entry) false

-- r is the first entry of l from k on to which the answer R is yes; None where there is none
unfoldable pub NextTold : (NodeEntry → Bool → Type 0) → List NodeEntry → ℕ → Option ℕ → Type 0
NextTold R l k None = Denied R l k (length l)
NextTold R l k (Some i) = Denied R l k i × (i < length l) × R (get_or l i no_entry) true

-- a leaf entry may be taken from under node n, whose entries stand at height h
pub record Prunable (h n : ℕ) (b : List ℕ) : Type 0 where
  pub ready : Ready h n b
  pub least : (h ≡ 0 → ⊥) → 2 ≤ length (entries b n)
  pub fits : length (nodes_at (entries b) h n) + length (free b) ≤ max_nodes

-- one leaf entry e is gone from under node n, whose entries stand at height h; n may be left with one entry fewer
pub record Pruned (h n : ℕ) (e : NodeEntry) (b b' : List ℕ) : Type 0 where
  pub sound : Each (SoundUnder (entries b') h) (entries b' n)
  pub least : length (entries b n) ≤ suc (length (entries b' n))
  pub leaf : (w : NodeEntry → ℕ) → w e + total w (leaves_at (entries b') h n) ≡ total w (leaves_at (entries b) h n)
  pub ids : (w : ℕ → ℕ) → total w (nodes_at (entries b') h n) + total w (free b') ≡ total w (nodes_at (entries b) h n) + total w (free b)
  pub rest : (m : ℕ) → tally m (nodes_at (entries b) h n) + tally m (free b) ≡ 0 → entries b' m ≡ entries b m
  pub only : Only free_start table_bytes b b'

-- how a search for e under the entries l of node n, which stand at height h, went: none of the leaf entries there is
-- e and nothing has changed, or e is gone from under n
unfoldable pub Sought : Bool → ℕ → ℕ → NodeEntry → List NodeEntry → List ℕ → List ℕ → Type 0
Sought false h n e l b b' = (b' ≡ b) × Each (λ p. p ≡ e → ⊥) (joined (leaves (entries b) h) l)
Sought true h n e l b b' = Pruned h n e b b'
