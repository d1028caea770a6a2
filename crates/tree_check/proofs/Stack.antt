-- The test of the free nodes, from the bottom of their stack to the top.
-- Assumes nothing.
use mathlib.Core.Bool.{Bool, true, false}
use mathlib.Core.List.{List}
use mathlib.Core.Logic.{⊎_elim}
use mathlib.Core.Path.{◌≡◌, refl, sym, ap, ◌∙◌}
use Prim.Native.Nat.{ℕ, zero, suc, ◌+◌, ◌*◌, ◌≤◌, ◌<◌}
use native.Mathlib.Decide.{ℕ_discrete}
use native.Mathlib.Nat.{eq-or-lt_of_le}
use native.Mathlib.Numerals.{add-one}
use native.Mathlib.Omega.{arith}
use lib.ListN.{length, get_or, set}
use Rattle.limits.specs.Limits.{max_nodes}
use Rattle.words.specs.Words.{word_at}
use Rattle.tree_node.specs.Layout.{stack_start}
use Rattle.tree_node.specs.Free.{numbers, free}
use Rattle.tree_node.specs.Tally.{total, hit, tally, Within}
use Rattle.tree_node.specs.Told.{Told}
use Rattle.tree_node.proofs.Counting.{hit_same}
use Rattle.tree_node.proofs.FreeStack.{length_free}
use Rattle.tree_node.proofs.Telling.{told_yes, told_no}
use Rattle.tree_check.specs.Marks.{mark_bytes, seen_bytes, Fresh, Marked, Bits, FreePass}
use Rattle.tree_check.proofs.Marking.{fresh_none, marked_none, marked_one, hit_most, hit_not}

-- the first k of the stack
abbrev pub stacked : List ℕ → ℕ → List ℕ
stacked b k = numbers b stack_start k

free_is : (b : List ℕ) (n : ℕ) → n ≡ length (free b) → free b ≡ stacked b n
unfolding free
free_is b n q = ap (numbers b stack_start) (sym (q ∙ length_free b))

-- the next one
stacked_more : (b : List ℕ) (k m : ℕ) → tally m (stacked b (suc k)) ≡ hit m (word_at b (stack_start + 2 * k)) + tally m (stacked b k)
unfolding numbers total
stacked_more b k m = refl

stacked_le : (b : List ℕ) (k n m : ℕ) → k ≤ n → tally m (stacked b k) ≤ tally m (stacked b n)
stacked_le b k zero m le = let z : k ≡ 0 = omega arith in rw z (omega arith)
stacked_le b k (suc n) m le =
    ⊎_elim
    (λ (q : k ≡ suc n). rw q (omega arith))
    (λ (l : k < suc n). omega (arith, stacked_le b k n m (omega arith), stacked_more b n m))
    (eq-or-lt_of_le le)

-- k of the n free nodes are tested, o₀ being the marks before
pub record Tested (b o₀ o : List ℕ) (n k : ℕ) : Type 0 where
  pub most : k ≤ n
  pub within : Within max_nodes (stacked b k)
  pub fresh : Fresh (λ m. tally m (stacked b k)) o₀
  pub marked : Marked (λ m. tally m (stacked b k)) o₀ o

pub tested_none : (b o : List ℕ) (n : ℕ) → Bits o → Tested b o o n 0
unfolding numbers total Within
tested_none b o n s =
    record {
      most = omega arith;
      within = λ m z. absurd (omega arith);
      fresh = fresh_none o (λ m. 0) (λ m. refl) s;
      marked = marked_none o (λ m. 0) (λ m. refl);
    }

module _ (b o₀ o : List ℕ) (n k c : ℕ) (p : Tested b o₀ o n k) (lt : k < n) (q : c ≡ word_at b (stack_start + 2 * k)) where
  next : (m : ℕ) → tally m (stacked b (k + 1)) ≡ hit m c + tally m (stacked b k)
  next m = rw (add-one, q) (stacked_more b k m)

  -- the free nodes that are left ask for no less
  rest : n ≡ length (free b) → (m : ℕ) → hit m c + tally m (stacked b k) ≤ tally m (free b)
  rest z m = rw (free_is b n z) (omega (arith, next m, stacked_le b (k + 1) n m (omega arith)))

  pub tested_far : {B : Type 0} → n ≡ length (free b) → max_nodes ≤ c → Told false (FreePass b o₀) B
  unfolding Within
  tested_far z le = told_no (λ f. omega (arith, f.within c (omega (arith, rest z c, hit_same c c refl))))

  pub tested_met : {B C : Type 0} (r : Bool) → n ≡ length (free b) → c < max_nodes → Told r (get_or o c 0 ≡ 0) B → r ≡ false → Told false (FreePass b o₀) C
  unfolding Fresh Marked
  tested_met r z l t y =
      told_no (λ f. t.no y (omega (arith, f.fresh c (omega arith), rest z c, hit_same c c refl, p.marked c (omega arith))))

  pub tested_one : (r : Bool) (o₁ : List ℕ) → length o ≡ seen_bytes → c < max_nodes → Told r (get_or o c 0 ≡ 0) (o₁ ≡ set o c 1) → r ≡ true → Tested b o₀ o₁ n (k + 1)
  unfolding Fresh Marked Within
  tested_one r o₁ len l t y =
      let u = t.yes y in
      record {
        most = omega arith;
        within = λ m z. inside m z (ℕ_discrete m c);
        fresh = λ m lm. unmet m lm u.0 (ℕ_discrete m c);
        marked = λ m lm. omega (arith, next m, p.marked m lm, here m u.0 u.1);
      }
    where
      inside : (m : ℕ) → 0 < tally m (stacked b (k + 1)) → Dec (m ≡ c) → m < max_nodes
      inside m z (yes s) = omega arith
      inside m z (no ne) = p.within m (omega (arith, next m, hit_not m c ne))

      here : (m : ℕ) → get_or o c 0 ≡ 0 → o₁ ≡ set o c 1 → get_or o₁ m 0 ≡ get_or o m 0 + hit m c
      here m z s = rw s (marked_one o c (omega arith) z m)

      unmet : (m : ℕ) → m < mark_bytes → get_or o c 0 ≡ 0 → Dec (m ≡ c) → get_or o₀ m 0 + tally m (stacked b (k + 1)) ≤ 1
      unmet m lm z (yes s) = omega (arith, next m, hit_most m c, p.marked m lm, ap (λ (x : ℕ). get_or o x 0) s)
      unmet m lm z (no ne) = omega (arith, next m, hit_not m c ne, p.fresh m lm)

pub tested_all : (b o₀ o : List ℕ) (n k : ℕ) → Tested b o₀ o n k → n ≤ k → n ≡ length (free b) → Told true (FreePass b o₀) (Marked (λ m. tally m (free b)) o₀ o)
tested_all b o₀ o n k p le z =
    let e : k ≡ n = omega (arith, p.most) in
    let q : stacked b k ≡ free b = ap (stacked b) e ∙ sym (free_is b n z) in
    rw (← q) (told_yes (record { within = rw q at p.within; fresh = rw q at p.fresh }) p.marked)
