-- A node of two entries and its sibling become one node, or share their entries anew.
-- Assumes nothing.
use mathlib.Core.Path.{◌≡◌, refl, sym, ap, ◌∙◌}
use mathlib.Core.List.{List, [], ◌∷◌, ◌++◌}
use Prim.Native.Nat.{ℕ, ◌+◌, ◌*◌, ◌≤◌, ◌<◌}
use native.Mathlib.Omega.{arith}
use lib.ListN.{length, length-append}
use Rattle.limits.specs.Limits.{max_entries, max_nodes, table_bytes}
use Rattle.words.proofs.Frame.{only_trans}
use Rattle.tree_node.specs.declared.NodeEntry.{NodeEntry}
use Rattle.tree_node.specs.Node.{entries, Wrote}
use Rattle.tree_node.specs.Free.{free, Given}
use Rattle.tree_node.specs.Boxes.{hull}
use Rattle.tree_node.proofs.Reading.{eight}
use Rattle.tree_node.proofs.Storing.{others, nodes_kept, in_pool, in_tree}
use Rattle.tree_node.proofs.FreeStack.{free_kept, low_in_tree}
use Rattle.permutation.specs.Perm.{Perm}
use Rattle.permutation.specs.Perm.Perm.{trans}
use Rattle.permutation.proofs.Perms.{perm_flip}
use Rattle.tree_repair.specs.Moved.{Moved}
use Rattle.tree_repair.specs.Repair.{SiblingPair, Merged, Shared}

pub no_entries : (l : List NodeEntry) → length l ≡ 0 → l ≡ []
no_entries [] p = refl
no_entries (e ∷ l) p = absurd (omega arith)

-- the steps of a merge
module _ (n c d : ℕ) (b b₁ : List ℕ) (pr : SiblingPair n c d b) (mv : Moved c d 2 b b₁) where
  pub merge_len : length b₁ ≡ table_bytes
  merge_len = mv.rest.only.len ∙ pr.len

  pub merge_free : length (free b₁) < max_nodes
  merge_free = rw (free_kept mv.rest.only) pr.room

  module _ (x : ℕ) (b₂ : List ℕ) (gv : Given x b₁ b₂) where
    parent_same : entries b₂ n ≡ entries b n
    parent_same = nodes_kept gv.only n ∙ mv.rest.rest n pr.under pr.sibling.under

    pub merge_len₂ : length b₂ ≡ table_bytes
    merge_len₂ = gv.only.len ∙ merge_len

    pub merge_room : length (entries b₂ n) < max_entries
    merge_room = omega (arith, ap length parent_same, pr.fits)

  pub merge_done : (b₂ b₃ : List ℕ) → Given c b₁ b₂ → Wrote n (entries b₂ n ++ (hull d (entries b₂ d) ∷ [])) b₂ b₃ → Merged n c d (entries b n) b b₃
  merge_done b₂ b₃ gv w =
      let d≢n : d ≡ n → ⊥ = λ q. pr.sibling.under (sym q) in
      let d₂ : entries b₂ d ≡ entries b₃ d = sym (others w.only d d≢n) in
      let d₃ : entries b₃ d ≡ entries b₁ d = others w.only d d≢n ∙ nodes_kept gv.only d in
      let none : entries b₁ c ≡ [] = no_entries (entries b₁ c) (omega (arith, mv.fewer, pr.two)) in
      let p : Perm (entries b c ++ entries b d) (entries b₃ d) = rw (none, ← d₃) at mv.perm in
      record {
        perm = p;
        least = rw d₃ (omega (arith, mv.more, pr.sibling.least));
        here = w.here ∙ rw (parent_same c b₂ gv, d₂);
        more = free_kept (in_pool pr.parent w.only) ∙ gv.more ∙ ap (λ (l : List ℕ). c ∷ l) (free_kept mv.rest.only);
        rest = λ m x y z. others w.only m x ∙ nodes_kept gv.only m ∙ mv.rest.rest m y z;
        only = only_trans (in_tree mv.rest.only) (only_trans (low_in_tree gv.only) (in_tree (in_pool pr.parent w.only)));
      }

-- how many may be moved
pub share_some : (d m many : ℕ) (b : List ℕ) → many ≡ length (entries b d) → 2 + 2 * m ≤ many → m ≤ length (entries b d)
share_some d m many b q le = omega arith

pub share_fits : (n c d m many : ℕ) (b : List ℕ) → SiblingPair n c d b → many ≡ length (entries b d) → 2 + 2 * m ≤ many → length (entries b c) + m ≤ max_entries
share_fits n c d m many b pr q le = omega (arith, pr.two, eight b d)

-- the steps of sharing anew
module _ (n c d m : ℕ) (b b₁ : List ℕ) (pr : SiblingPair n c d b) (mv : Moved d c m b b₁) where
  parent_kept : entries b₁ n ≡ entries b n
  parent_kept = mv.rest.rest n pr.sibling.under pr.under

  pub share_len : length b₁ ≡ table_bytes
  share_len = mv.rest.only.len ∙ pr.len

  pub share_room : length (entries b₁ n) < max_entries
  share_room = omega (arith, ap length parent_kept, pr.fits)

  module _ (b₂ : List ℕ) (w₁ : Wrote n (entries b₁ n ++ (hull c (entries b₁ c) ∷ [])) b₁ b₂) where
    pub share_len₂ : length b₂ ≡ table_bytes
    share_len₂ = w₁.only.len ∙ share_len

    pub share_room₂ : length (entries b₂ n) < max_entries
    share_room₂ =
        omega (arith, ap length parent_kept, ap length w₁.here, length-append (entries b₁ n) (hull c (entries b₁ c) ∷ []), pr.fits)

    pub share_done : (many : ℕ) (b₃ : List ℕ) → many ≡ length (entries b d) → 1 ≤ m → 2 + 2 * m ≤ many
        → Wrote n (entries b₂ n ++ (hull d (entries b₂ d) ∷ [])) b₂ b₃ → Shared n c d (entries b n) b b₃
    share_done many b₃ q one le w₂ =
        let c≢n : c ≡ n → ⊥ = λ z. pr.under (sym z) in
        let d≢n : d ≡ n → ⊥ = λ z. pr.sibling.under (sym z) in
        let c₃ : entries b₃ c ≡ entries b₁ c = others w₂.only c c≢n ∙ others w₁.only c c≢n in
        let d₂ : entries b₂ d ≡ entries b₁ d = others w₁.only d d≢n in
        let d₃ : entries b₃ d ≡ entries b₁ d = others w₂.only d d≢n ∙ d₂ in
        record {
          perm = rw (c₃, d₃) (trans (perm_flip (entries b c) (entries b d)) (trans mv.perm (perm_flip (entries b₁ d) (entries b₁ c))));
          least = rw c₃ (omega (arith, mv.more, pr.two));
          least₂ = rw d₃ (omega (arith, mv.fewer));
          here = w₂.here ∙ rw (w₁.here, parent_kept, d₂, c₃, d₃);
          same = free_kept (in_pool pr.parent w₂.only) ∙ free_kept (in_pool pr.parent w₁.only) ∙ free_kept mv.rest.only;
          rest = λ i x y z. others w₂.only i x ∙ others w₁.only i x ∙ mv.rest.rest i z y;
          only =
              only_trans
              (in_tree mv.rest.only)
              (only_trans (in_tree (in_pool pr.parent w₁.only)) (in_tree (in_pool pr.parent w₂.only)));
        }
