-- A node gets the entry of a child back: what dropping entries before leaves.
-- Assumes nothing.
use mathlib.Core.Path.{◌≡◌, sym, ap, subst, ◌∙◌}
use mathlib.Core.List.{List, [], ◌∷◌, ◌++◌}
use Prim.Native.Nat.{ℕ, ◌≤◌, ◌<◌}
use native.Mathlib.Omega.{arith}
use lib.ListN.{length, get_or}
use Rattle.limits.specs.Limits.{max_entries, min_entries, max_nodes, table_bytes}
use Rattle.words.specs.Words.{Only}
use Rattle.words.proofs.Frame.{only_trans}
use Rattle.tree_node.specs.declared.NodeEntry.{NodeEntry}
use Rattle.tree_node.specs.Layout.{free_start}
use Rattle.tree_node.specs.Node.{entries, no_entry, swap_out, Wrote}
use Rattle.tree_node.specs.Free.{free}
use Rattle.tree_node.specs.Boxes.{hull}
use Rattle.tree_node.proofs.Reading.{eight}
use Rattle.tree_node.proofs.Storing.{others, in_pool, in_tree}
use Rattle.tree_node.proofs.FreeStack.{free_kept}
use Rattle.tree_rules.specs.Tree.{Each}
use Rattle.tree_rules.proofs.Every.{each_at, each_map}
use Rattle.tree_rules.proofs.Perms.{perm_each, swap_out_perm, length_swap_out}
use Rattle.tree_repair.specs.Repair.{Sibling, Loose, SiblingPair, Lifted, Joined, Repaired}
use Rattle.tree_repair.specs.Repair.Joined.{merged, shared}
use Rattle.tree_repair.specs.Repair.Repaired.{lifted, joined_to}

-- node n alone has changed
module _ (n c : ℕ) (r : List NodeEntry) (b b₁ : List ℕ) (under : n ≡ c → ⊥) (parent : n < max_nodes) (w : Wrote n r b b₁) where
  child_same : entries b₁ c ≡ entries b c
  child_same = others w.only c (λ (q : c ≡ n). under (sym q))

  stack_same : free b₁ ≡ free b
  stack_same = free_kept (in_pool parent w.only)

  before : {b₂ : List ℕ} → Only free_start table_bytes b₁ b₂ → Only free_start table_bytes b b₂
  before o = only_trans (in_tree (in_pool parent w.only)) o

  sibling_same : (d : ℕ) → Sibling n c b d → Sibling n c b₁ d
  sibling_same d s =
      record {
        id = s.id;
        under = s.under;
        other = s.other;
        least = rw (others w.only d (λ (q : d ≡ n). s.under (sym q))) s.least;
      }

  loose_same : (l : List NodeEntry) → Loose n c l b → Loose n c l b₁
  loose_same l ls =
      record {
        len = w.only.len ∙ ls.len;
        parent = ls.parent;
        child = ls.child;
        under = ls.under;
        least = rw child_same ls.least;
        siblings = each_map (λ g. Sibling n c b g.reference) (λ g. Sibling n c b₁ g.reference) (λ g. sibling_same g.reference) l ls.siblings;
        room = rw stack_same ls.room;
      }

  -- what is done after that is done of what stood before
  lifted_back : (l : List NodeEntry) (b₂ : List ℕ) → Lifted n c l b₁ b₂ → Lifted n c l b b₂
  lifted_back l b₂ x =
      record {
        least = rw (← child_same) x.least;
        here = x.here ∙ rw child_same;
        same = x.same ∙ stack_same;
        rest = λ m y. x.rest m y ∙ others w.only m y;
        only = before x.only;
      }

  module _ (d : ℕ) (other : n ≡ d → ⊥) where
    sibling_kept : entries b₁ d ≡ entries b d
    sibling_kept = others w.only d (λ (q : d ≡ n). other (sym q))

    joined_back : (l : List NodeEntry) (b₂ : List ℕ) → Joined n c d l b₁ b₂ → Joined n c d l b b₂
    joined_back l b₂ (merged x) =
        merged
        record {
          perm = rw (← child_same, ← sibling_kept) x.perm;
          least = x.least;
          here = x.here;
          more = x.more ∙ ap (λ (z : List ℕ). c ∷ z) stack_same;
          rest = λ m y z v. x.rest m y z v ∙ others w.only m y;
          only = before x.only;
        }
    joined_back l b₂ (shared x) =
        shared
        record {
          perm = rw (← child_same, ← sibling_kept) x.perm;
          least = x.least;
          least₂ = x.least₂;
          here = x.here;
          same = x.same ∙ stack_same;
          rest = λ m y z v. x.rest m y z v ∙ others w.only m y;
          only = before x.only;
        }

-- a sibling g is taken from n
module _ (n c j : ℕ) (g : NodeEntry) (b b₁ : List ℕ) (ls : Loose n c (entries b n) b) (lt : j < length (entries b n)) (qg : g ≡ get_or (entries b n) j no_entry)
    (w : Wrote n (swap_out (entries b n) j) b b₁) where
  sibling : Sibling n c b g.reference
  sibling = rw qg (each_at (λ x. Sibling n c b x.reference) (entries b n) j no_entry ls.siblings lt)

  pub nearest_pair : length (entries b c) ≡ 2 → length (entries b n) < max_entries → SiblingPair n c g.reference b₁
  nearest_pair two lt₈ =
      record {
        len = w.only.len ∙ ls.len;
        parent = ls.parent;
        child = ls.child;
        under = ls.under;
        two = ap length (child_same n c _ b b₁ ls.under ls.parent w) ∙ two;
        sibling = sibling_same n c _ b b₁ ls.under ls.parent w g.reference sibling;
        fits = omega (arith, ap length w.here, length_swap_out (entries b n) j lt);
        room = rw (stack_same n c _ b b₁ ls.under ls.parent w) ls.room;
      }

  pub nearest_done : (b₂ : List ℕ) → Joined n c g.reference (entries b₁ n) b₁ b₂ → Repaired n c (entries b n) b b₂
  nearest_done b₂ x =
      joined_to
      g
      (swap_out (entries b n) j)
      (rw qg (swap_out_perm (entries b n) j lt))
      (joined_back
      n
      c
      _
      b
      b₁
      ls.under
      ls.parent
      w
      g.reference
      sibling.under
      (swap_out (entries b n) j)
      b₂
      (subst (λ (l : List NodeEntry). Joined n c g.reference l b₁ b₂) w.here x))

-- a child with entries enough
pub lift_done : (n c k : ℕ) (g : NodeEntry) (b b₁ : List ℕ) → Loose n c (entries b n) b → k ≡ length (entries b c) → min_entries ≤ k → g ≡ hull c (entries b c)
    → Wrote n (entries b n ++ (g ∷ [])) b b₁ → Repaired n c (entries b n) b b₁
lift_done n c k g b b₁ ls q le qg w =
    lifted
    record {
      least = omega arith;
      here = w.here ∙ rw qg;
      same = free_kept (in_pool ls.parent w.only);
      rest = others w.only;
      only = in_tree (in_pool ls.parent w.only);
    }

-- the child's own entry is taken from n first
module _ (n c k : ℕ) (b b₁ : List ℕ) (ls : Loose n c (swap_out (entries b n) k) b) (lt : k < length (entries b n)) (w : Wrote n (swap_out (entries b n) k) b b₁) where
  pub repair_loose : Loose n c (entries b₁ n) b₁
  repair_loose =
      subst (λ (l : List NodeEntry). Loose n c l b₁) (sym w.here) (loose_same n c _ b b₁ ls.under ls.parent w (swap_out (entries b n) k) ls)

  pub repair_some : 2 ≤ length (entries b n) → 0 < length (entries b₁ n)
  repair_some le = omega (arith, ap length w.here, length_swap_out (entries b n) k lt)

  pub repair_room : length (entries b₁ n) < max_entries
  repair_room = omega (arith, ap length w.here, length_swap_out (entries b n) k lt, eight b n)

  -- what stood in a list of siblings is a sibling
  back : (l : List NodeEntry) (b₂ : List ℕ) → Each (λ g. Sibling n c b g.reference) l → Repaired n c l b₁ b₂ → Repaired n c l b b₂
  unfolding Each
  back l b₂ s (lifted x) = lifted (lifted_back n c _ b b₁ ls.under ls.parent w l b₂ x)
  back l b₂ s (joined_to g stay p x) =
      joined_to
      g
      stay
      p
      (joined_back n c _ b b₁ ls.under ls.parent w g.reference (perm_each (λ y. Sibling n c b y.reference) p s).0.under stay b₂ x)

  pub repair_done : (b₂ : List ℕ) → Repaired n c (entries b₁ n) b₁ b₂ → Repaired n c (swap_out (entries b n) k) b b₂
  repair_done b₂ x = back (swap_out (entries b n) k) b₂ ls.siblings (subst (λ (l : List NodeEntry). Repaired n c l b₁ b₂) w.here x)
