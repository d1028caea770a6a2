-- Entries moved one by one from a node to another.
-- Assumes nothing.
use mathlib.Core.Path.{◌≡◌, sym, ap, ◌∙◌}
use mathlib.Core.List.{List, [], ◌∷◌, ◌++◌, append_assoc}
use Prim.Native.Nat.{ℕ, ◌+◌, ◌≤◌, ◌<◌}
use native.Mathlib.Omega.{arith}
use lib.ListN.{length, get_or, length-append}
use Rattle.limits.specs.Limits.{max_entries, max_nodes, table_bytes}
use Rattle.words.proofs.Frame.{only_trans}
use Rattle.tree_node.specs.declared.NodeEntry.{NodeEntry}
use Rattle.tree_node.specs.Node.{entries, no_entry, swap_out, Wrote}
use Rattle.tree_node.proofs.Storing.{others, in_pool, only_two_refl, only_two_trans}
use Rattle.permutation.specs.Perm.{Perm}
use Rattle.permutation.specs.Perm.Perm.{same, trans}
use Rattle.permutation.proofs.Perms.{perm_sym, perm_left, perm_snoc}
use Rattle.tree_rules.proofs.Perms.{swap_out_perm, length_swap_out}
use Rattle.tree_repair.specs.Moved.{Moved}

-- the node that gets an entry has room for it still, when the other has lost it
pub move_room : (c d : ℕ) (l : List NodeEntry) (b b₁ : List ℕ) → (c ≡ d → ⊥) → Wrote c l b b₁ → length (entries b d) < max_entries → length (entries b₁ d) < max_entries
move_room c d l b b₁ ne w lt = omega (arith, ap length (others w.only d (λ (q : d ≡ c). ne (sym q))))

-- entry k of node c, which is e, has gone to node d
module _ (c d k : ℕ) (e : NodeEntry) (b b₁ b₂ : List ℕ) (ne : c ≡ d → ⊥) (lc : c < max_nodes) (ld : d < max_nodes) (lt : k < length (entries b c))
    (qe : e ≡ get_or (entries b c) k no_entry) (w₁ : Wrote c (swap_out (entries b c) k) b b₁) (w₂ : Wrote d (entries b₁ d ++ (e ∷ [])) b₁ b₂) where
  giver : entries b₂ c ≡ swap_out (entries b c) k
  giver = others w₂.only c ne ∙ w₁.here

  taker : entries b₂ d ≡ entries b d ++ (e ∷ [])
  taker = w₂.here ∙ ap (λ (l : List NodeEntry). l ++ (e ∷ [])) (others w₁.only d (λ (q : d ≡ c). ne (sym q)))

  both : Perm (entries b c ++ entries b d) (entries b₂ c ++ entries b₂ d)
  both =
      let S : List NodeEntry = swap_out (entries b c) k in
      let D : List NodeEntry = entries b d in
      let p : Perm (entries b c ++ D) (e ∷ (S ++ D)) = rw qe (perm_left D (swap_out_perm (entries b c) k lt)) in
      rw (giver, taker, ← append_assoc S D (e ∷ [])) (trans p (perm_sym (perm_snoc (S ++ D) e)))

  pub move_done : Moved c d 1 b b₂
  move_done =
      record {
        perm = both;
        fewer = omega (arith, ap length giver, length_swap_out (entries b c) k lt);
        more = omega (arith, ap length taker, length-append (entries b d) (e ∷ []));
        rest = record { rest = λ i x y. others w₂.only i y ∙ others w₁.only i x; only = only_trans (in_pool lc w₁.only) (in_pool ld w₂.only) };
      }

-- the loop
pub moved_none : (c d : ℕ) (b : List ℕ) → Moved c d 0 b b
moved_none c d b = record { perm = same; fewer = omega arith; more = omega arith; rest = only_two_refl }

pub moved_next : (c d k : ℕ) (b b₁ b₂ : List ℕ) → Moved c d k b b₁ → Moved c d 1 b₁ b₂ → Moved c d (k + 1) b b₂
moved_next c d k b b₁ b₂ s t =
    record {
      perm = trans s.perm t.perm;
      fewer = omega (arith, s.fewer, t.fewer);
      more = omega (arith, s.more, t.more);
      rest = only_two_trans s.rest t.rest;
    }

module _ (c d k m : ℕ) (b b₁ : List ℕ) (s : Moved c d k b b₁) where
  pub moved_len : length b ≡ table_bytes → length b₁ ≡ table_bytes
  moved_len len = s.rest.only.len ∙ len

  pub moved_some : k < m → m ≤ length (entries b c) → 0 < length (entries b₁ c)
  moved_some lt le = omega (arith, s.fewer)

  pub moved_room : k < m → length (entries b d) + m ≤ max_entries → length (entries b₁ d) < max_entries
  moved_room lt le = omega (arith, s.more)

  pub moved_all : k ≤ m → m ≤ k → Moved c d m b b₁
  moved_all le ge = let q : m ≡ k = omega arith in rw q s
