-- A root that has lost an entry.
-- Assumes nothing.
use mathlib.Core.Path.{◌≡◌, refl, ap, ◌∙◌}
use mathlib.Core.List.{List, [], ◌∷◌}
use Prim.Native.Nat.{ℕ, suc, ◌+◌, ◌-◌, ◌≤◌, ◌<◌}
use native.Mathlib.Omega.{arith}
use lib.ListN.{length, get_or}
use Rattle.words.proofs.Frame.{only_refl}
use Rattle.tree_node.specs.declared.NodeEntry.{NodeEntry}
use Rattle.std.specs.Prelude.{Option, None}
use Rattle.tree_node.specs.declared.Top.{Top}
use Rattle.tree_node.specs.Header.{top}
use Rattle.tree_node.specs.Node.{entries, no_entry}
use Rattle.tree_node.specs.Free.{Given}
use Rattle.tree_node.specs.Tally.{total}
use Rattle.tree_node.proofs.Reading.{eight}
use Rattle.tree_node.proofs.Storing.{nodes_kept}
use Rattle.tree_node.proofs.FreeStack.{low_in_tree}
use Rattle.tree_rules.specs.Tree.{Store, joined, leaves, nodes, Each, Child, SoundUnder}
use Rattle.tree_rules.specs.Rooted.{tree_leaves, tree_nodes, RootSound}
use Rattle.tree_rules.specs.Change.{Ready, Became}
use Rattle.tree_rules.proofs.Totals.{total_cons, leaves_at_lem, nodes_at_lem, leaves_under, nodes_under}
use Rattle.tree_rules.proofs.Outside.{same_leaves, same_nodes, same_sound}
use Rattle.tree_repair.proofs.Joining.{no_entries}

single : (l : List NodeEntry) (f : NodeEntry) → length l ≡ 1 → f ≡ get_or l 0 no_entry → l ≡ f ∷ []
single [] f p q = absurd (omega arith)
single (e ∷ l) f p q = rw (q, no_entries l (omega arith))

module _ (g n : ℕ) (b : List ℕ) (rd : Ready g n b) where
  -- it stays the root
  stays : ((g ≡ 0 → ⊥) → 2 ≤ length (entries b n)) → 1 ≤ length (entries b n) → Became (top g n) (top g n) b b
  unfolding RootSound
  stays two one =
      record {
        top = record { id = rd.id; two = two; one = one; most = eight b n; below = rd.sound };
        leaf = λ w. refl;
        ids = λ w. refl;
        only = only_refl;
      }

  pub shrink_leaf : (m : ℕ) → m ≡ length (entries b n) → g ≡ 0 → 0 < m → Became (top g n) (top g n) b b
  shrink_leaf m q z one = stays (λ nz. absurd (nz z)) (omega arith)

  pub shrink_same : (m : ℕ) → m ≡ length (entries b n) → (g ≡ 0 → ⊥) → 1 < m → Became (top g n) (top g n) b b
  shrink_same m q nz two = stays (λ z. omega arith) (omega arith)

  -- an empty leaf is free
  pub shrink_none : (m : ℕ) (b₁ : List ℕ) → m ≡ length (entries b n) → g ≡ 0 → m ≤ 0 → Given n b b₁ → Became (top g n) None b b₁
  unfolding RootSound tree_leaves tree_nodes joined total
  shrink_none m b₁ q z empty gv =
      let here : entries b n ≡ [] = no_entries (entries b n) (omega arith) in
      record {
        top = tt;
        leaf = λ w. omega (arith, leaves_at_lem (entries b) g n [] here w);
        ids = λ w. omega (arith, nodes_at_lem (entries b) g n [] here w, ap (total w) gv.more);
        only = low_in_tree gv.only;
      }

  -- its one child is the root
  module _ (k : ℕ) (f : NodeEntry) (here : entries b n ≡ f ∷ []) (up : suc k ≡ g) where
    abbrev E : Store
    E = entries b

    child : Child E (SoundUnder E k) f
    unfolding Each SoundUnder
    child = let s : Each (SoundUnder E (suc k)) (f ∷ []) = rw (here, ← up) at rd.sound in s.0

    sound_top : RootSound E (top k f.reference)
    unfolding RootSound
    sound_top =
        record {
          id = child.id;
          two = λ z. omega (arith, child.least);
          one = omega (arith, child.least);
          most = child.most;
          below = child.below;
        }

    leaf_totals : (w : NodeEntry → ℕ) → total w (tree_leaves E (top k f.reference)) ≡ total w (tree_leaves E (top g n))
    unfolding tree_leaves joined total
    leaf_totals w =
        rw (← up)
        (omega (
          arith,
          leaves_at_lem E (suc k) n (f ∷ []) here w,
          total_cons w (leaves E (suc k)) f [],
          ap (total w) (leaves_under E k f),
        ))

    node_totals : (w : ℕ → ℕ) → w n + total w (tree_nodes E (top k f.reference)) ≡ total w (tree_nodes E (top g n))
    unfolding tree_nodes joined total
    node_totals w =
        rw (← up)
        (omega (
          arith,
          nodes_at_lem E (suc k) n (f ∷ []) here w,
          total_cons w (nodes E (suc k)) f [],
          ap (total w) (nodes_under E k f),
        ))

    lowered : (b₁ : List ℕ) → Given n b b₁ → Became (top g n) (top k f.reference) b b₁
    unfolding total
    lowered b₁ gv =
        let kept : (i : ℕ) → entries b₁ i ≡ E i = nodes_kept gv.only in
        let r : Option Top = top k f.reference in
        record {
          top = same_sound E (entries b₁) kept r sound_top;
          leaf = λ w. ap (total w) (same_leaves E (entries b₁) kept r) ∙ leaf_totals w;
          ids = λ w. omega (arith, ap (total w) (same_nodes E (entries b₁) kept r), node_totals w, ap (total w) gv.more);
          only = low_in_tree gv.only;
        }

  pub shrink_child : (m : ℕ) (f : NodeEntry) (b₁ : List ℕ) → m ≡ length (entries b n) → ((g ≡ 0 → ⊥) → 1 ≤ length (entries b n)) → (g ≡ 0 → ⊥) → m ≤ 1 → f ≡ get_or (entries b n) 0 no_entry → Given n b b₁
      → Became (top g n) (top (g - 1) f.reference) b b₁
  shrink_child m f b₁ q some nz le qf gv =
      let one : 1 ≤ length (entries b n) = some nz in
      lowered (g - 1) f (single (entries b n) f (omega arith) qf) (omega arith) b₁ gv

  pub shrink_some : ((g ≡ 0 → ⊥) → 1 ≤ length (entries b n)) → (g ≡ 0 → ⊥) → 0 < length (entries b n)
  shrink_some some nz = some nz
