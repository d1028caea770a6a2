-- What a store in a node's bytes does to its entries, and what it leaves.
-- Assumes nothing.
use mathlib.Core.Path.{◌≡◌, refl, sym, ap, ◌∙◌}
use mathlib.Core.List.{List, [], ◌∷◌, ◌++◌}
use mathlib.Core.Logic.{⊎_elim}
use Prim.Native.Nat.{ℕ, ◌+◌, ◌-◌, ◌≤◌, ◌<◌}
use native.Mathlib.Omega.{arith}
use native.Mathlib.Nat.{eq-or-lt_of_le}
use lib.ListN.{length, get_or, set, take, length-set, length-append, get_or-append}
use lib.Seq.{get_or-set_same, get_or-set_other, get_or_at, get_or-take, length-take-le}
use Rattle.limits.specs.Limits.{max_entries, max_nodes, table_bytes}
use Rattle.words.specs.Words.{put_word, Only}
use Rattle.words.proofs.Frame.{only_refl, only_trans, only_wider, only_put_word, word_put_word, word_low, word_high}
use Rattle.tree_node.specs.declared.NodeEntry.{NodeEntry}
use Rattle.tree_node.specs.Layout.{free_start, pool_start, node_entry_bytes, node_bytes, base, entry_start, up_to}
use Rattle.tree_node.specs.Node.{entry_at, put_entry, entries, no_entry, swap_out, Wrote, OnlyTwo}
use Rattle.tree_node.proofs.Counting.{le_or_lt, up_to_low}
use Rattle.tree_node.proofs.Reading.{length_entries, get_d_entries, eight, entries_ext, entries_are}

-- the entries that a change leaves
module _ {lo hi : ℕ} {b b' : List ℕ} (p : Only lo hi b b') where
  pub entry_low : (o : ℕ) → o + node_entry_bytes ≤ lo → entry_at b' o ≡ entry_at b o
  unfolding entry_at
  entry_low o h =
      λ i. record {
        reference = word_low p o (omega arith) i;
        west = word_low p (o + 2) (omega arith) i;
        south = word_low p (o + 4) (omega arith) i;
        east = word_low p (o + 6) (omega arith) i;
        north = word_low p (o + 8) (omega arith) i;
        spare = word_low p (o + 10) (omega arith) i;
      }

  pub entry_high : (o : ℕ) → hi ≤ o → entry_at b' o ≡ entry_at b o
  unfolding entry_at
  entry_high o h =
      λ i. record {
        reference = word_high p o (omega arith) i;
        west = word_high p (o + 2) (omega arith) i;
        south = word_high p (o + 4) (omega arith) i;
        east = word_high p (o + 6) (omega arith) i;
        north = word_high p (o + 8) (omega arith) i;
        spare = word_high p (o + 10) (omega arith) i;
      }

pub only_put_entry : (b : List ℕ) (o : ℕ) (e : NodeEntry) → Only o (o + node_entry_bytes) b (put_entry b o e)
unfolding put_entry
only_put_entry b o e =
    only_trans
    (only_wider (omega arith) (omega arith) (only_put_word b o e.reference))
    (only_trans
    (only_wider (omega arith) (omega arith) (only_put_word _ (o + 2) e.west))
    (only_trans
    (only_wider (omega arith) (omega arith) (only_put_word _ (o + 4) e.south))
    (only_trans
    (only_wider (omega arith) (omega arith) (only_put_word _ (o + 6) e.east))
    (only_trans
    (only_wider (omega arith) (omega arith) (only_put_word _ (o + 8) e.north))
    (only_wider (omega arith) (omega arith) (only_put_word _ (o + 10) e.spare))))))

-- what is stored is read
pub entry_put_entry : (b : List ℕ) (o : ℕ) (e : NodeEntry) → o + node_entry_bytes ≤ length b → entry_at (put_entry b o e) o ≡ e
unfolding put_entry entry_at
entry_put_entry b o e h =
    let b₁ = put_word b o e.reference in
    let b₂ = put_word b₁ (o + 2) e.west in
    let b₃ = put_word b₂ (o + 4) e.south in
    let b₄ = put_word b₃ (o + 6) e.east in
    let b₅ = put_word b₄ (o + 8) e.north in
    let p₁ = only_put_word b o e.reference in
    let p₂ = only_put_word b₁ (o + 2) e.west in
    let p₃ = only_put_word b₂ (o + 4) e.south in
    let p₄ = only_put_word b₃ (o + 6) e.east in
    let p₅ = only_put_word b₄ (o + 8) e.north in
    let p₆ = only_put_word b₅ (o + 10) e.spare in
    λ i. record {
      reference =
          (word_low p₆ o (omega arith) ∙ word_low p₅ o (omega arith) ∙ word_low p₄ o (omega arith) ∙ word_low p₃ o (omega arith)
          ∙ word_low p₂ o (omega arith) ∙ word_put_word b o e.reference (omega arith)) i;
      west =
          (word_low p₆ (o + 2) (omega arith) ∙ word_low p₅ (o + 2) (omega arith) ∙ word_low p₄ (o + 2) (omega arith)
          ∙ word_low p₃ (o + 2) (omega arith) ∙ word_put_word b₁ (o + 2) e.west (omega arith)) i;
      south =
          (word_low p₆ (o + 4) (omega arith) ∙ word_low p₅ (o + 4) (omega arith) ∙ word_low p₄ (o + 4) (omega arith)
          ∙ word_put_word b₂ (o + 4) e.south (omega arith)) i;
      east =
          (word_low p₆ (o + 6) (omega arith) ∙ word_low p₅ (o + 6) (omega arith) ∙ word_put_word b₃ (o + 6) e.east (omega arith)) i;
      north = (word_low p₆ (o + 8) (omega arith) ∙ word_put_word b₄ (o + 8) e.north (omega arith)) i;
      spare = word_put_word b₅ (o + 10) e.spare (omega arith) i;
    }

-- a change of node n's bytes leaves every other node
pub others : {n : ℕ} {b b' : List ℕ} → Only (base n) (base n + node_bytes) b b' → (m : ℕ) → (m ≡ n → ⊥) → entries b' m ≡ entries b m
others {n} {b} {b'} p m ne =
    ⊎_elim
    (λ (l : m ≤ n).
    entries_ext b b' m (word_low p (base m) (omega arith)) (λ k lt. entry_low p (entry_start m k) (omega arith)))
    (λ (l : n < m).
    entries_ext b b' m (word_high p (base m) (omega arith)) (λ k lt. entry_high p (entry_start m k) (omega arith)))
    (le_or_lt m n)

-- a change below the pool leaves every node
pub nodes_kept : {lo : ℕ} {b b' : List ℕ} → Only lo pool_start b b' → (m : ℕ) → entries b' m ≡ entries b m
nodes_kept {lo} {b} {b'} p m =
    entries_ext b b' m (word_high p (base m) (omega arith)) (λ k lt. entry_high p (entry_start m k) (omega arith))

-- a node's bytes are in the pool
pub in_pool : {n : ℕ} {b b' : List ℕ} → n < max_nodes → Only (base n) (base n + node_bytes) b b' → Only pool_start table_bytes b b'
in_pool h p = only_wider (omega arith) (omega arith) p

-- the pool is in the tree
pub in_tree : {b b' : List ℕ} → Only pool_start table_bytes b b' → Only free_start table_bytes b b'
in_tree p = only_wider (omega arith) (omega arith) p

-- changes of two nodes
pub only_two_refl : {c s : ℕ} {b : List ℕ} → OnlyTwo c s b b
only_two_refl = record { rest = λ m x y. refl; only = only_refl }

pub only_two_trans : {c s : ℕ} {b b₁ b₂ : List ℕ} → OnlyTwo c s b b₁ → OnlyTwo c s b₁ b₂ → OnlyTwo c s b b₂
only_two_trans p q = record { rest = λ m x y. q.rest m x y ∙ p.rest m x y; only = only_trans p.only q.only }

-- e stored at entry k of node n: over the one that stands there, or after the last
module _ (b : List ℕ) (n : ℕ) (e : NodeEntry) (fits : base n + node_bytes ≤ length b) where
  pub wrote_set : (k : ℕ) → k < length (entries b n) → Wrote n (set (entries b n) k e) b (put_entry b (entry_start n k) e)
  wrote_set k lt =
      let le = eight b n in
      let p = only_put_entry b (entry_start n k) e in
      record {
        here =
            entries_are
            (put_entry b (entry_start n k) e)
            n
            (set (entries b n) k e)
            (ap (up_to max_entries) (word_low p (base n) (omega arith)) ∙ sym (length-set (entries b n) k e ∙ length_entries b n))
            (λ i l. each i (omega (arith, length-set (entries b n) k e)));
        only = only_wider (omega arith) (omega arith) p;
      }
    where
      each : (i : ℕ) → i < length (entries b n) → entry_at (put_entry b (entry_start n k) e) (entry_start n i) ≡ get_or (set (entries b n) k e) i no_entry
      each i l =
          let le = eight b n in
          let p = only_put_entry b (entry_start n k) e in
          ⊎_elim
          (λ (h : i ≤ k).
          ⊎_elim
          (λ (q : i ≡ k).
          rw q (entry_put_entry b (entry_start n k) e (omega arith) ∙ sym (get_or-set_same (entries b n) k e no_entry lt)))
          (λ (q : i < k).
          entry_low p (entry_start n i) (omega arith)
          ∙ sym (get_or-set_other (entries b n) k i e no_entry (omega arith) ∙ get_d_entries b n i l))
          (eq-or-lt_of_le h))
          (λ (h : k < i).
          entry_high p (entry_start n i) (omega arith)
          ∙ sym (get_or-set_other (entries b n) k i e no_entry (omega arith) ∙ get_d_entries b n i l))
          (le_or_lt i k)

  pub wrote_push : (k : ℕ) → k ≡ length (entries b n) → k < max_entries → Wrote n (entries b n ++ (e ∷ [])) b (put_word (put_entry b (entry_start n k) e) (base n) (k + 1))
  wrote_push k q lt =
      let p = only_put_entry b (entry_start n k) e in
      let r = only_put_word (put_entry b (entry_start n k) e) (base n) (k + 1) in
      let len = length-append (entries b n) (e ∷ []) in
      record {
        here =
            entries_are
            _
            n
            (entries b n ++ (e ∷ []))
            (ap (up_to max_entries) (word_put_word (put_entry b (entry_start n k) e) (base n) (k + 1) (omega (arith, p.len)))
            ∙ omega (arith, up_to_low max_entries (k + 1) (omega arith)))
            (λ i l. above i ∙ each i (omega arith));
        only = only_trans (only_wider (omega arith) (omega arith) p) (only_wider (omega arith) (omega arith) r);
      }
    where
      above : (i : ℕ) → entry_at (put_word (put_entry b (entry_start n k) e) (base n) (k + 1)) (entry_start n i) ≡ entry_at (put_entry b (entry_start n k) e) (entry_start n i)
      above i = entry_high (only_put_word (put_entry b (entry_start n k) e) (base n) (k + 1)) (entry_start n i) (omega arith)

      each : (i : ℕ) → i ≤ k → entry_at (put_entry b (entry_start n k) e) (entry_start n i) ≡ get_or (entries b n ++ (e ∷ [])) i no_entry
      each i h =
          let p = only_put_entry b (entry_start n k) e in
          ⊎_elim
          (λ (z : i ≡ k).
          rw z (entry_put_entry b (entry_start n k) e (omega arith) ∙ sym (get_or_at (entries b n) e [] no_entry k (sym q))))
          (λ (z : i < k).
          entry_low p (entry_start n i) (omega arith)
          ∙ sym (get_or-append (entries b n) (e ∷ []) no_entry i (omega arith) ∙ get_d_entries b n i (omega arith)))
          (eq-or-lt_of_le h)

-- the count made smaller
pub wrote_trim : (b : List ℕ) (n m : ℕ) → m ≤ length (entries b n) → base n + node_bytes ≤ length b → Wrote n (take m (entries b n)) b (put_word b (base n) m)
wrote_trim b n m le fits =
    let p = only_put_word b (base n) m in
    let len : length (take m (entries b n)) ≡ m = length-take-le m (entries b n) le in
    record {
      here =
          entries_are
          (put_word b (base n) m)
          n
          (take m (entries b n))
          (ap (up_to max_entries) (word_put_word b (base n) m (omega arith))
          ∙ omega (arith, up_to_low max_entries m (omega (arith, eight b n))))
          (λ i l.
          let lt : i < m = omega arith in
          entry_high p (entry_start n i) (omega arith) ∙ sym (get_or-take m (entries b n) i no_entry lt ∙ get_d_entries b n i (omega arith)));
      only = only_wider (omega arith) (omega arith) p;
    }

-- what the code of a store, an addition, a clearing and a dropping leaves
module _ (b : List ℕ) (n : ℕ) (len : length b ≡ table_bytes) (id : n < max_nodes) where
  pub put_done : (k i : ℕ) (e : NodeEntry) (b' : List ℕ) → k < length (entries b n) → i ≡ entry_start n k → b' ≡ put_entry b i e → Wrote n (set (entries b n) k e) b b'
  put_done k i e b' lt at q = rw (q, at) (wrote_set b n e (omega arith) k lt)

  pub push_done : (k i j : ℕ) (e : NodeEntry) (b₁ b₂ : List ℕ) → k ≡ length (entries b n) → length (entries b n) < max_entries → i ≡ entry_start n k → b₁ ≡ put_entry b i e
      → j ≡ base n → b₂ ≡ put_word b₁ j (k + 1) → Wrote n (entries b n ++ (e ∷ [])) b b₂
  push_done k i j e b₁ b₂ q room at q₁ at₂ q₂ = rw (q₂, q₁, at, at₂) (wrote_push b n e (omega arith) k q (omega arith))

  pub clear_done : (j : ℕ) (b' : List ℕ) → j ≡ base n → b' ≡ put_word b j 0 → Wrote n [] b b'
  clear_done j b' at q = rw (q, at) (wrote_trim b n 0 (omega arith) (omega arith))

  pub drop_done : (k c j : ℕ) (z : NodeEntry) (b₁ b₂ : List ℕ) → k < length (entries b n) → c ≡ length (entries b n) → z ≡ get_or (entries b n) (c - 1) no_entry
      → Wrote n (set (entries b n) k z) b b₁ → j ≡ base n → b₂ ≡ put_word b₁ j (c - 1) → Wrote n (swap_out (entries b n) k) b b₂
  unfolding swap_out
  drop_done k c j z b₁ b₂ lt qc qz w at q =
      let le : c - 1 ≤ length (entries b₁ n) = omega (arith, ap length w.here, length-set (entries b n) k z) in
      let t = wrote_trim b₁ n (c - 1) le (omega (arith, w.only.len)) in
      let e : take (c - 1) (entries b₁ n) ≡ take (length (entries b n) - 1) (set (entries b n) k (get_or (entries b n) (length (entries b n) - 1) no_entry)) =
      ap (take (c - 1)) w.here ∙ rw (qz, qc) in
      let q' : b₂ ≡ put_word b₁ (base n) (c - 1) = q ∙ ap (λ (x : ℕ). put_word b₁ x (c - 1)) at in
      record { here = ap (λ (x : List ℕ). entries x n) q' ∙ t.here ∙ e; only = only_trans w.only (rw q' t.only) }
