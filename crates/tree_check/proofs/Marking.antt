-- Laws of marks: one more is set, all are taken away, all are set.
-- Assumes nothing.
use mathlib.Core.List.{List, ◌++◌}
use mathlib.Core.Path.{◌≡◌, refl, ap, ◌∙◌}
use Prim.Native.Nat.{ℕ, min, ◌+◌, ◌≤◌, ◌<◌}
use native.Mathlib.Decide.{ℕ_discrete}
use native.Mathlib.Omega.{arith}
use borrow.Author.Count.{below_more}
use borrow.Author.Tests.{ne_eqb}
use lib.ListN.{length, get_or, set, take, drop, replicate}
use Rattle.std.proofs.lemmas.List.{length-take-le, length-replicate, get_or_append_left, get_or-replicate}
use lib.Seq.{get_or-set_same, get_or-set_other}
use Rattle.tree_node.specs.Tally.{hit}
use Rattle.tree_node.proofs.Counting.{hit_same}
use Rattle.tree_check.specs.Marks.{mark_bytes, seen_bytes, Blank, Full, Fresh, Marked, Bits, Prepared}

pub hit_not : (x y : ℕ) → (x ≡ y → ⊥) → hit x y ≡ 0
unfolding hit
hit_not x y ne = rw (ne_eqb x y ne)

pub hit_most : (x y : ℕ) → hit x y ≤ 1
hit_most x y = go (ℕ_discrete x y)
  where
    go : Dec (x ≡ y) → hit x y ≤ 1
    go (yes q) = omega (arith, hit_same x y q)
    go (no ne) = omega (arith, hit_not x y ne)

-- mark p is set, which was not set before
pub marked_one : (o : List ℕ) (p : ℕ) → p < length o → get_or o p 0 ≡ 0 → (m : ℕ) → get_or (set o p 1) m 0 ≡ get_or o m 0 + hit m p
marked_one o p lt z m = go (ℕ_discrete m p)
  where
    go : Dec (m ≡ p) → get_or (set o p 1) m 0 ≡ get_or o m 0 + hit m p
    go (yes q) = rw q (omega (arith, get_or-set_same o p 1 0 lt, hit_same p p refl))
    go (no ne) = omega (arith, get_or-set_other o p m 1 0 ne, hit_not m p ne)

pub fresh_hit : (o : List ℕ) (p : ℕ) → get_or o p 0 ≡ 0 → (m : ℕ) → get_or o m 0 ≤ 1 → get_or o m 0 + hit m p ≤ 1
fresh_hit o p z m le = go (ℕ_discrete m p)
  where
    go : Dec (m ≡ p) → get_or o m 0 + hit m p ≤ 1
    go (yes q) = omega (arith, hit_most m p, ap (λ (x : ℕ). get_or o x 0) q)
    go (no ne) = omega (arith, hit_not m p ne)

-- the marks that f tells, and then those that g tells
pub marked_both : (f g k : ℕ → ℕ) (o o₁ o₂ : List ℕ) → ((m : ℕ) → k m ≡ f m + g m) → Marked f o o₁ → Marked g o₁ o₂ → Marked k o o₂
unfolding Marked
marked_both f g k o o₁ o₂ q p r m lt = omega (arith, q m, p m lt, r m lt)

-- what is fresh in part
module _ (f g k : ℕ → ℕ) (o o₁ : List ℕ) (q : (m : ℕ) → k m ≡ f m + g m) where
  pub fresh_first : Fresh k o → Fresh f o
  unfolding Fresh
  fresh_first p m lt = omega (arith, q m, p m lt)

  pub fresh_then : Marked f o o₁ → Fresh k o → Fresh g o₁
  unfolding Fresh Marked
  fresh_then r p m lt = omega (arith, q m, p m lt, r m lt)

  pub fresh_both : Marked f o o₁ → Fresh g o₁ → Fresh k o
  unfolding Fresh Marked
  fresh_both r p m lt = omega (arith, q m, p m lt, r m lt)

-- one mark is set
pub marked_set : (o o₁ : List ℕ) (p : ℕ) → length o ≡ seen_bytes → p < mark_bytes → get_or o p 0 ≡ 0 → o₁ ≡ set o p 1 → Marked (λ m. hit m p) o o₁
unfolding Marked
marked_set o o₁ p len lt z q m l = rw q (marked_one o p (omega arith) z m)

-- a mark that is asked for is not set
pub fresh_at : (f : ℕ → ℕ) (o : List ℕ) (p : ℕ) → p < mark_bytes → 0 < f p → Fresh f o → get_or o p 0 ≡ 0
unfolding Fresh
fresh_at f o p lt h p' = omega (arith, p' p lt)

-- a walk goes on after what it has marked
pub prepared_on : (b o o₁ : List ℕ) (f : ℕ → ℕ) → Prepared b o → Fresh f o → Marked f o o₁ → Prepared b o₁
unfolding Fresh Marked Bits
prepared_on b o o₁ f s p r =
    record {
      array = s.array;
      bits = λ m lt. omega (arith, p m lt, r m lt);
    }

-- no mark asked for
pub fresh_none : (o : List ℕ) (f : ℕ → ℕ) → ((m : ℕ) → f m ≡ 0) → Bits o → Fresh f o
unfolding Fresh Bits
fresh_none o f z s m lt = omega (arith, z m, s m lt)

pub marked_none : (o : List ℕ) (f : ℕ → ℕ) → ((m : ℕ) → f m ≡ 0) → Marked f o o
unfolding Marked
marked_none o f z m lt = omega (arith, z m)

-- the marks are taken away
pub blank_filled : (o a : List ℕ) → length o ≡ seen_bytes → a ≡ replicate (length (take mark_bytes o)) 0 → Blank (a ++ drop mark_bytes o)
unfolding Blank
blank_filled o a len q m lt =
    let n : length (take mark_bytes o) ≡ mark_bytes = length-take-le mark_bytes o (omega arith) in
    let zeros : a ≡ replicate mark_bytes 0 = q ∙ ap (λ (x : ℕ). replicate x 0) n in
    get_or_append_left a (drop mark_bytes o) 0 m (omega (arith, ap length zeros, length-replicate {A = ℕ} mark_bytes 0))
    ∙ ap (λ (x : List ℕ). get_or x m 0) zeros
    ∙ get_or-replicate mark_bytes m 0 0 lt

pub blank_bits : (o : List ℕ) → Blank o → Bits o
unfolding Blank Bits
blank_bits o z m lt = omega (arith, z m lt)

-- the loop of `full`
-- v is above 0 where each of the first i marks is set, and nowhere else
pub record Least (o : List ℕ) (i v : ℕ) : Type 0 where
  pub yes : 0 < v → Full i o
  pub no : Full i o → 0 < v

pub least_none : (o : List ℕ) → Least o 0 255
unfolding Full
least_none o = record { yes = λ z m l. absurd (omega arith); no = λ p. omega arith }

pub least_one : (o : List ℕ) (i v r : ℕ) → Least o i v → r ≡ min v (get_or o i 0) → Least o (i + 1) r
unfolding Full
least_one o i v r l q =
    record {
      yes = λ z. below_more (λ m. 0 < get_or o m 0) i (l.yes (omega arith)) (omega arith);
      no = λ p. omega (arith, l.no (λ m lt. p m (omega arith)), p i (omega arith));
    }
