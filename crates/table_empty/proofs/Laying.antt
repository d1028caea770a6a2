-- The loops of laying out.
-- Assumes nothing.
use mathlib.Core.Path.{◌≡◌, refl, ap, ◌∙◌}
use mathlib.Core.List.{List, ◌++◌, append-nil}
use Prim.Native.Nat.{ℕ, zero, suc, ◌+◌, ◌*◌, ◌≤◌, ◌<◌}
use native.Mathlib.Omega.{arith}
use native.Mathlib.Numerals.{add-one}
use lib.ListN.{length, set, drop}
use lib.Seq.{drop-length}
use borrow.Author.Fill.{fill_more}
use Rattle.limits.specs.Limits.{max_nodes, table_bytes}
use Rattle.words.specs.Words.{put_word}
use Rattle.words.proofs.Frame.{only_put_word}
use Rattle.table_header.specs.Layout.{layout_start, layout_number}
use Rattle.tree_node.specs.Layout.{free_start, stack_start}
use Rattle.table_empty.specs.EmptyTable.{zeros, stacked, numbered, empty_table}

pub stacked_length : (k : ℕ) (b : List ℕ) → length (stacked k b) ≡ length b
unfolding stacked
stacked_length zero b = refl
stacked_length (suc k) b = (only_put_word (stacked k b) (stack_start + 2 * k) k).len ∙ stacked_length k b

-- the stack has the first k nodes
pub record Stacking (b₀ : List ℕ) (k : ℕ) (b : List ℕ) : Type 0 where
  pub within : k ≤ max_nodes
  pub len : length b ≡ table_bytes
  pub so_far : b ≡ stacked k b₀

pub stacking_none : (b : List ℕ) → length b ≡ table_bytes → Stacking b 0 b
unfolding stacked
stacking_none b h = record { within = omega arith; len = h; so_far = refl }

pub stacking_one : (b₀ : List ℕ) (k : ℕ) (b b' : List ℕ) → Stacking b₀ k b → k < max_nodes → b' ≡ put_word b (stack_start + 2 * k) k → Stacking b₀ (k + 1) b'
unfolding stacked
stacking_one b₀ k b b' s h e =
    record {
      within = omega arith;
      len = ap length e ∙ (only_put_word b (stack_start + 2 * k) k).len ∙ s.len;
      so_far = rw (add-one k) (e ∙ ap (λ (x : List ℕ). put_word x (stack_start + 2 * k) k) s.so_far);
    }

pub stacking_all : (b₀ : List ℕ) (k : ℕ) (b : List ℕ) → Stacking b₀ k b → max_nodes ≤ k → b ≡ stacked max_nodes b₀
stacking_all b₀ k b s h = let e : k ≡ max_nodes = omega (arith, s.within) in s.so_far ∙ ap (λ (j : ℕ). stacked j b₀) e

-- all four steps
pub laid : (b b₁ b₂ b₃ b₄ : List ℕ) → length b ≡ table_bytes → b₁ ≡ zeros (length b) → b₂ ≡ put_word b₁ layout_start layout_number → b₃ ≡ stacked max_nodes b₂
    → b₄ ≡ put_word b₃ free_start max_nodes → b₄ ≡ empty_table
unfolding empty_table numbered
laid b b₁ b₂ b₃ b₄ h e₁ e₂ e₃ e₄ =
    let n : b₂ ≡ numbered = e₂ ∙ ap (λ (x : List ℕ). put_word x layout_start layout_number) (e₁ ∙ ap zeros h) in
    e₄ ∙ ap (λ (x : List ℕ). put_word x free_start max_nodes) (e₃ ∙ ap (stacked max_nodes) n)
