-- The stack of free nodes: taking one, giving one back, and what leaves the stack as it is.
-- Assumes nothing.
use mathlib.Core.Path.{◌≡◌, refl, sym, ap, ap₂, ◌∙◌}
use mathlib.Core.List.{List, ◌∷◌}
use Prim.Native.Nat.{ℕ, zero, suc, ◌+◌, ◌*◌, ◌-◌, ◌≤◌, ◌<◌}
use native.Mathlib.Omega.{arith}
use lib.ListN.{length}
use Rattle.limits.specs.Limits.{max_nodes, table_bytes}
use Rattle.words.specs.Words.{word_at, put_word, Only}
use Rattle.words.proofs.Frame.{only_trans, only_wider, only_put_word, word_put_word, word_low, word_high}
use Rattle.tree_node.specs.declared.NodeEntry.{NodeEntry}
use Rattle.tree_node.specs.Layout.{free_start, stack_start, pool_start, up_to}
use Rattle.tree_node.specs.Node.{Wrote}
use Rattle.tree_node.specs.Tally.{Within}
use Rattle.tree_node.specs.Free.{numbers, free, Popped, Given, Taken}
use Rattle.tree_node.proofs.Counting.{up_to_low, up_to_high, up_to_most, taken_in, within_in}
use Rattle.tree_node.proofs.Storing.{others, nodes_kept, in_pool, in_tree}

length_numbers : (b : List ℕ) (i k : ℕ) → length (numbers b i k) ≡ k
unfolding numbers
length_numbers b i zero = refl
length_numbers b i (suc k) = omega (arith, length_numbers b i k)

numbers_ext : (b b' : List ℕ) (i k : ℕ) → ((j : ℕ) → j < k → word_at b' (i + 2 * j) ≡ word_at b (i + 2 * j)) → numbers b' i k ≡ numbers b i k
unfolding numbers
numbers_ext b b' i zero h = refl
numbers_ext b b' i (suc k) h =
    ap₂ (λ (x : ℕ) (l : List ℕ). x ∷ l) (h k (omega arith)) (numbers_ext b b' i k (λ j l. h j (omega arith)))

pub length_free : (b : List ℕ) → length (free b) ≡ up_to max_nodes (word_at b free_start)
unfolding free
length_free b = length_numbers b stack_start (up_to max_nodes (word_at b free_start))

-- a change past the stack leaves the free nodes
pub free_kept : {hi : ℕ} {b b' : List ℕ} → Only pool_start hi b b' → free b' ≡ free b
unfolding free
free_kept {hi} {b} {b'} p =
    rw (word_low p free_start (omega arith))
    (numbers_ext b b' stack_start _ (λ j l. word_low p (stack_start + 2 * j) (omega (arith, up_to_most max_nodes (word_at b free_start)))))

-- a change of the header leaves them
pub free_headed : {lo : ℕ} {b b' : List ℕ} → Only lo free_start b b' → free b' ≡ free b
unfolding free
free_headed {lo} {b} {b'} p =
    rw (word_high p free_start (omega arith))
    (numbers_ext b b' stack_start _ (λ j l. word_high p (stack_start + 2 * j) (omega arith)))

-- the top of the stack is taken
module _ (b : List ℕ) (c : ℕ) (len : length b ≡ table_bytes) (q : c ≡ length (free b)) where
  pub pop_done : (r : ℕ) (b' : List ℕ) → 0 < length (free b) → r ≡ word_at b (stack_start + 2 * (c - 1)) → b' ≡ put_word b free_start (c - 1) → Popped r b b'
  unfolding free numbers
  pop_done r b' some qr qb =
      let k : ℕ = c - 1 in
      let p = only_put_word b free_start k in
      let w : word_at (put_word b free_start k) free_start ≡ k = word_put_word b free_start k (omega arith) in
      let most = up_to_most max_nodes (word_at b free_start) in
      let e : up_to max_nodes (word_at b free_start) ≡ suc k = omega (arith, length_free b) in
      let f : up_to max_nodes (word_at (put_word b free_start k) free_start) ≡ k = ap (up_to max_nodes) w ∙ up_to_low max_nodes k (omega arith) in
      rw (qr, qb)
      record {
        taken =
            rw (e, f)
            (ap
            (λ (l : List ℕ). word_at b (stack_start + 2 * k) ∷ l)
            (sym (numbers_ext b (put_word b free_start k) stack_start k (λ j l. word_high p (stack_start + 2 * j) (omega arith)))));
        only = only_wider (omega arith) (omega arith) p;
      }

-- c is put on the stack
pub give_done : (b : List ℕ) (c k : ℕ) (b₁ b₂ : List ℕ) → length b ≡ table_bytes → k ≡ length (free b) → length (free b) < max_nodes → b₁ ≡ put_word b (stack_start + 2 * k) c
    → b₂ ≡ put_word b₁ free_start (k + 1) → Given c b b₂
unfolding free numbers
give_done b c k b₁ b₂ len q lt q₁ q₂ =
    let p₁ : Only (stack_start + 2 * k) (stack_start + 2 * k + 2) b b₁ = rw q₁ (only_put_word b (stack_start + 2 * k) c) in
    let p₂ : Only free_start (free_start + 2) b₁ b₂ = rw q₂ (only_put_word b₁ free_start (k + 1)) in
    let w : word_at b₂ free_start ≡ k + 1 = rw q₂ (word_put_word b₁ free_start (k + 1) (omega (arith, p₁.len))) in
    let z : up_to max_nodes (word_at b₂ free_start) ≡ suc k = ap (up_to max_nodes) w ∙ omega (arith, up_to_low max_nodes (k + 1) (omega arith)) in
    let y : up_to max_nodes (word_at b free_start) ≡ k = omega (arith, length_free b) in
    let top : word_at b₂ (stack_start + 2 * k) ≡ c =
    word_high p₂ (stack_start + 2 * k) (omega arith) ∙ rw q₁ (word_put_word b (stack_start + 2 * k) c (omega arith)) in
    let low : numbers b₂ stack_start k ≡ numbers b stack_start k =
    numbers_ext b b₂ stack_start k (λ j l. word_high p₂ (stack_start + 2 * j) (omega arith) ∙ word_low p₁ (stack_start + 2 * j) (omega arith)) in
    record {
      more = rw (z, y, top) (ap (λ (l : List ℕ). c ∷ l) low);
      only = only_trans (only_wider (omega arith) (omega arith) p₁) (only_wider (omega arith) (omega arith) p₂);
    }

-- the stack is in the tree
pub low_in_tree : {b b' : List ℕ} → Only free_start pool_start b b' → Only free_start table_bytes b b'
low_in_tree p = only_wider (omega arith) (omega arith) p

-- a free node is taken and emptied
module _ (r : ℕ) (b b₁ : List ℕ) (w : Within max_nodes (free b)) (p : Popped r b b₁) where
  pub fresh_id : r < max_nodes
  fresh_id = within_in max_nodes (free b) r w (taken_in (free b) (free b₁) r p.taken)

  pub fresh_done : (l : List NodeEntry) (b₂ : List ℕ) → Wrote r l b₁ b₂ → Taken r l b b₂
  fresh_done l b₂ wr =
      record {
        taken = p.taken ∙ ap (λ (l : List ℕ). r ∷ l) (sym (free_kept (in_pool fresh_id wr.only)));
        id = fresh_id;
        here = wr.here;
        rest = λ m x. others wr.only m x ∙ nodes_kept p.only m;
        only = only_trans (low_in_tree p.only) (in_tree (in_pool fresh_id wr.only));
      }

-- how many nodes are free
pub free_counted : (b : List ℕ) (stored : ℕ) → stored ≡ word_at b free_start → stored ≤ max_nodes → stored ≡ length (free b)
free_counted b stored q h = sym (length_free b ∙ rw (← q) (up_to_low max_nodes stored h))

pub free_none : (b : List ℕ) (stored : ℕ) → stored ≡ word_at b free_start → max_nodes < stored → 0 ≡ length (free b)
free_none b stored q h = sym (length_free b ∙ rw (← q) (up_to_high max_nodes stored h))
