-- Sums over the numbers below a limit, and totals as such sums: what stands how often, times what it weighs.
-- Assumes nothing.
use mathlib.Core.List.{List, [], ◌∷◌}
use mathlib.Core.Logic.{⊎_elim}
use mathlib.Core.Path.{◌≡◌, refl, ap}
use Prim.Native.Nat.{ℕ, zero, suc, ◌+◌, ◌*◌, ◌≤◌, ◌<◌}
use native.Mathlib.Nat.{eq-or-lt_of_le}
use native.Mathlib.Omega.{arith}
use lib.ListN.{length, get_or}
use Rattle.grid.specs.declared.Site.{Site}
use Rattle.table_sites.specs.Lines.{no_site}
use Rattle.tree_node.specs.declared.NodeEntry.{NodeEntry}
use Rattle.tree_node.specs.Tally.{total, hit, tally, Within}
use Rattle.tree_node.proofs.Counting.{hit_same, total_one}
use Rattle.tree_rules.specs.Tree.{Each}
use Rattle.tree_check.specs.Leaves.{leaf_entry, leaf_entries, index_of, Known}
use Rattle.tree_check.proofs.Marking.{hit_not}

-- f 0 + f 1 + .., n of them
unfoldable pub sum : (ℕ → ℕ) → ℕ → ℕ
sum f zero = 0
sum f (suc n) = sum f n + f n

pub sum_ext : (f g : ℕ → ℕ) (n : ℕ) → ((k : ℕ) → k < n → f k ≡ g k) → sum f n ≡ sum g n
unfolding sum
sum_ext f g zero q = refl
sum_ext f g (suc n) q = omega (arith, sum_ext f g n (λ k l. q k (omega arith)), q n (omega arith))

-- the first one apart
sum_first : (f : ℕ → ℕ) (n : ℕ) → sum f (suc n) ≡ f 0 + sum (λ k. f (suc k)) n
unfolding sum
sum_first f zero = omega arith
sum_first f (suc n) = omega (arith, sum_first f n)

sum_zero : (f : ℕ → ℕ) (n : ℕ) → ((k : ℕ) → k < n → f k ≡ 0) → sum f n ≡ 0
unfolding sum
sum_zero f zero z = refl
sum_zero f (suc n) z = omega (arith, sum_zero f n (λ k l. z k (omega arith)), z n (omega arith))

pub sum_one : (f : ℕ → ℕ) (n : ℕ) → ((k : ℕ) → k < n → f k ≡ 1) → sum f n ≡ n
unfolding sum
sum_one f zero z = refl
sum_one f (suc n) z = omega (arith, sum_one f n (λ k l. z k (omega arith)), z n (omega arith))

sum_most : (f : ℕ → ℕ) (n : ℕ) → ((k : ℕ) → k < n → f k ≤ 1) → sum f n ≤ n
unfolding sum
sum_most f zero z = omega arith
sum_most f (suc n) z = omega (arith, sum_most f n (λ k l. z k (omega arith)), z n (omega arith))

-- where none is more than 1 and the sum is n, each is 1
pub sum_full : (f : ℕ → ℕ) (n : ℕ) → ((k : ℕ) → k < n → f k ≤ 1) → sum f n ≡ n → (k : ℕ) → k < n → f k ≡ 1
unfolding sum
sum_full f zero z q k l = absurd (omega arith)
sum_full f (suc n) z q k l =
    let low = sum_most f n (λ j m. z j (omega arith)) in
    let top = z n (omega arith) in
    ⊎_elim
    (λ (e : k ≡ n). rw e (omega arith))
    (λ (m : k < n). sum_full f n (λ j i. z j (omega arith)) (omega arith) k m)
    (eq-or-lt_of_le (omega arith))

pub sum_add : (f g : ℕ → ℕ) (n : ℕ) → sum (λ k. f k + g k) n ≡ sum f n + sum g n
unfolding sum
sum_add f g zero = refl
sum_add f g (suc n) = omega (arith, sum_add f g n)

-- the one k that is r
sum_hit : (v : ℕ → ℕ) (n r : ℕ) → r < n → sum (λ k. hit k r * v k) n ≡ v r
unfolding sum
sum_hit v zero r l = absurd (omega arith)
sum_hit v (suc n) r l =
    ⊎_elim
    (λ (q : r ≡ n).
    let z = sum_zero (λ k. hit k r * v k) n (λ k m. rw (hit_not k r (omega arith)) (omega arith)) in
    hit_here n r q z)
    (λ (m : r < n). rw (hit_not n r (omega arith)) (omega (arith, sum_hit v n r m)))
    (eq-or-lt_of_le (omega arith))
  where
    hit_here : (n r : ℕ) → r ≡ n → sum (λ k. hit k r * v k) n ≡ 0 → sum (λ k. hit k r * v k) n + hit n r * v n ≡ v r
    hit_here n r q z = rw (z, q, hit_same n n refl) (omega arith)

-- how often m is among a, a + 1, .., n of them
module _ (m a : ℕ) where
  pub hits_high : (n : ℕ) → a + n ≤ m → sum (λ k. hit m (a + k)) n ≡ 0
  hits_high n l = sum_zero (λ k. hit m (a + k)) n (λ k h. hit_not m (a + k) (omega arith))

  pub hits_in : (n : ℕ) → a ≤ m → m < a + n → sum (λ k. hit m (a + k)) n ≡ 1
  unfolding sum
  hits_in zero l h = absurd (omega arith)
  hits_in (suc n) l h =
      ⊎_elim
      (λ (q : m ≡ a + n). omega (arith, hits_high n (omega arith), hit_same m (a + n) q))
      (λ (i : m < a + n). omega (arith, hits_in n l i, hit_not m (a + n) (omega arith)))
      (eq-or-lt_of_le (omega arith))

-- a total over numbers below n, number by number
within_tail : (n a : ℕ) (l : List ℕ) → Within n (a ∷ l) → Within n l
unfolding Within total
within_tail n a l w m z = w m (omega arith)

within_head : (n a : ℕ) (l : List ℕ) → Within n (a ∷ l) → a < n
unfolding Within total
within_head n a l w = w a (omega (arith, hit_same a a refl))

total_spread : (v : ℕ → ℕ) (n : ℕ) (l : List ℕ) → Within n l → total v l ≡ sum (λ m. tally m l * v m) n
unfolding total
total_spread v n [] w = let z = sum_zero (λ m. 0 * v m) n (λ m h. omega arith) in omega arith
total_spread v n (a ∷ l) w =
    let e = sum_ext (λ m. (hit m a + tally m l) * v m) (λ m. hit m a * v m + tally m l * v m) n (λ m h. omega arith) in
    omega (
      arith,
      e,
      sum_add (λ m. hit m a * v m) (λ m. tally m l * v m) n,
      sum_hit v n a (within_head n a l w),
      total_spread v n l (within_tail n a l w),
    )

-- so many are as many as the numbers below n stand in l
pub length_spread : (n : ℕ) (l : List ℕ) → Within n l → length l ≡ sum (λ m. tally m l) n
length_spread n l w =
    let e = sum_ext (λ m. tally m l * 1) (λ m. tally m l) n (λ m h. omega arith) in
    omega (arith, total_one l, total_spread (λ _. 1) n l w)

-- a total over the leaf entries of lines, line by line
pub total_known : (s : List Site) (w : NodeEntry → ℕ) (l : List NodeEntry) → Each (Known s) l
    → total w l ≡ sum (λ k. total (λ e. hit k (index_of s e.reference)) l * w (leaf_entry (get_or s k no_site))) (length s)
unfolding total Each
total_known s w [] p = let z = sum_zero (λ k. 0 * w (leaf_entry (get_or s k no_site))) (length s) (λ k h. omega arith) in omega arith
total_known s w (e ∷ l) p =
    let v : ℕ → ℕ = λ k. w (leaf_entry (get_or s k no_site)) in
    let f : ℕ → ℕ = λ k. hit k (index_of s e.reference) in
    let g : ℕ → ℕ = λ k. total (λ d. hit k (index_of s d.reference)) l in
    let q = sum_ext (λ k. (f k + g k) * v k) (λ k. f k * v k + g k * v k) (length s) (λ k h. omega arith) in
    omega (
      arith,
      q,
      sum_add (λ k. f k * v k) (λ k. g k * v k) (length s),
      sum_hit v (length s) (index_of s e.reference) p.0.held,
      ap w p.0.leaf,
      total_known s w l p.1,
    )

-- a total over the leaf entries of all lines
pub total_lines : (w : NodeEntry → ℕ) (s : List Site) → total w (leaf_entries s) ≡ sum (λ k. w (leaf_entry (get_or s k no_site))) (length s)
unfolding total leaf_entries sum
total_lines w [] = refl
total_lines w (p ∷ s) = omega (arith, sum_first (λ k. w (leaf_entry (get_or (p ∷ s) k no_site))) (length s), total_lines w s)
