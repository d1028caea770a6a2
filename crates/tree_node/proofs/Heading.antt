-- The tree's header: what is stored is told, and what leaves it.
-- Assumes nothing.
use mathlib.Core.Path.{◌≡◌, sym, ap₂, ◌∙◌}
use mathlib.Core.List.{List}
use Prim.Native.Nat.{ℕ, suc, ◌+◌, ◌-◌, ◌<◌}
use native.Mathlib.Omega.{arith}
use native.Mathlib.Numerals.{add-one}
use lib.ListN.{length}
use Rattle.limits.specs.Limits.{table_bytes}
use Rattle.words.specs.Words.{word_at, put_word, Only}
use Rattle.words.proofs.Frame.{only_trans, only_wider, only_put_word, word_put_word, word_low, word_high}
use Rattle.std.specs.Prelude.{Option, None, Some}
use Rattle.tree_node.specs.declared.Top.{Top}
use Rattle.tree_node.specs.Layout.{tree_start, root_start}
use Rattle.tree_node.specs.Header.{top, root_of, root_in, SmallRoot, Headed}

-- and so does a change below the tree
pub root_above : {lo : ℕ} {b b' : List ℕ} → Only lo tree_start b b' → root_in b' ≡ root_in b
unfolding root_in
root_above p = ap₂ root_of (word_high p tree_start (omega arith)) (word_high p root_start (omega arith))

-- what is read
pub empty_told : (b : List ℕ) (levels : ℕ) → levels ≡ word_at b tree_start → levels ≡ 0 → None ≡ root_in b
unfolding root_in root_of
empty_told b levels q z = rw (← q, z)

pub top_told : (b : List ℕ) (levels n : ℕ) → levels ≡ word_at b tree_start → (levels ≡ 0 → ⊥) → n ≡ word_at b root_start → top (levels - 1) n ≡ root_in b
unfolding root_in root_of
top_told b levels n q nz r =
    let u : word_at b tree_start ≡ suc (levels - 1) = omega arith in
    rw (u, r)

-- what is stored
pub empty_headed : (r : Option Top) (b b' : List ℕ) → r ≡ None → length b ≡ table_bytes → b' ≡ put_word b tree_start 0 → Headed r b b'
unfolding root_in root_of
empty_headed r b b' qr len q =
    rw (qr, q)
    record {
      root = rw (word_put_word b tree_start 0 (omega arith));
      only = only_wider (omega arith) (omega arith) (only_put_word b tree_start 0);
    }

module _ (r : Option Top) (x : Top) (qr : r ≡ Some x) where
  pub small_levels : SmallRoot r → suc x.height < 65536
  unfolding SmallRoot
  small_levels s = let t : SmallRoot (Some x) = rw qr at s in t.0

  pub small_root : SmallRoot r → x.node < 65536
  unfolding SmallRoot
  small_root s = let t : SmallRoot (Some x) = rw qr at s in t.1

  pub top_headed : (b b₁ b₂ : List ℕ) → length b ≡ table_bytes → b₁ ≡ put_word b tree_start (x.height + 1) → b₂ ≡ put_word b₁ root_start x.node → Headed r b b₂
  unfolding root_in root_of
  top_headed b b₁ b₂ len q₁ q₂ =
      let p₁ : Only tree_start (tree_start + 2) b b₁ = rw q₁ (only_put_word b tree_start (x.height + 1)) in
      let p₂ : Only root_start (root_start + 2) b₁ b₂ = rw q₂ (only_put_word b₁ root_start x.node) in
      let levels : word_at b₂ tree_start ≡ suc x.height =
      word_low p₂ tree_start (omega arith) ∙ rw q₁ (word_put_word b tree_start (x.height + 1) (omega arith)) ∙ add-one x.height in
      let root : word_at b₂ root_start ≡ x.node = rw q₂ (word_put_word b₁ root_start x.node (omega (arith, p₁.len))) in
      record {
        root = rw (levels, root) (sym qr);
        only = only_trans (only_wider (omega arith) (omega arith) p₁) (only_wider (omega arith) (omega arith) p₂);
      }
