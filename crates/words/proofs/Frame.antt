-- What a store of a number changes, and what it leaves.
-- Assumes nothing.
use mathlib.Core.Path.{◌≡◌, refl, ap₂, ◌∙◌}
use mathlib.Core.Logic.{◌≢◌}
use mathlib.Core.List.{List}
use Prim.Native.Nat.{ℕ, ◌+◌, ◌*◌, ◌/◌, ◌%◌, ◌≤◌}
use native.Mathlib.Omega.{arith}
use lib.ListN.{length, get_or, set, length-set}
use lib.Seq.{get_or-set_same, get_or-set_other}
use Rattle.words.specs.Words.{word_at, put_word, Only}

pub only_refl : {lo hi : ℕ} {b : List ℕ} → Only lo hi b b
only_refl = record { len = refl; low = λ i h. refl; high = λ i h. refl }

pub only_trans : {lo hi : ℕ} {b b₁ b₂ : List ℕ} → Only lo hi b b₁ → Only lo hi b₁ b₂ → Only lo hi b b₂
only_trans p q =
    record { len = q.len ∙ p.len; low = λ i h. q.low i h ∙ p.low i h; high = λ i h. q.high i h ∙ p.high i h }

pub only_wider : {lo hi lo' hi' : ℕ} {b b₁ : List ℕ} → lo' ≤ lo → hi ≤ hi' → Only lo hi b b₁ → Only lo' hi' b b₁
only_wider l h p =
    record { len = p.len; low = λ i g. p.low i (omega arith); high = λ i g. p.high i (omega arith) }

pub only_put_word : (b : List ℕ) (o v : ℕ) → Only o (o + 2) b (put_word b o v)
unfolding put_word
only_put_word b o v =
    record {
      len = simp length-set;
      low = λ i h. two i (omega arith) (omega arith);
      high = λ i h. two i (omega arith) (omega arith);
    }
  where
    two : (i : ℕ) → i ≢ o → i ≢ o + 1 → get_or (set (set b o (v % 256)) (o + 1) (v / 256)) i 0 ≡ get_or b i 0
    two i p q = get_or-set_other (set b o (v % 256)) (o + 1) i (v / 256) 0 q ∙ get_or-set_other b o i (v % 256) 0 p

-- what is stored is read
pub word_put_word : (b : List ℕ) (o v : ℕ) → o + 2 ≤ length b → word_at (put_word b o v) o ≡ v
unfolding word_at put_word
word_put_word b o v h =
    let low : get_or (set (set b o (v % 256)) (o + 1) (v / 256)) o 0 ≡ v % 256 =
    get_or-set_other (set b o (v % 256)) (o + 1) o (v / 256) 0 (omega arith) ∙ get_or-set_same b o (v % 256) 0 (omega arith) in
    let high : get_or (set (set b o (v % 256)) (o + 1) (v / 256)) (o + 1) 0 ≡ v / 256 =
    get_or-set_same (set b o (v % 256)) (o + 1) (v / 256) 0 (omega (arith, length-set b o (v % 256))) in
    omega arith

-- the numbers that a change leaves
module _ {lo hi : ℕ} {b b' : List ℕ} (p : Only lo hi b b') where
  pub word_low : (o : ℕ) → o + 2 ≤ lo → word_at b' o ≡ word_at b o
  unfolding word_at
  word_low o h = ap₂ (λ (x y : ℕ). x + 256 * y) (p.low o (omega arith)) (p.low (o + 1) (omega arith))

  pub word_high : (o : ℕ) → hi ≤ o → word_at b' o ≡ word_at b o
  unfolding word_at
  word_high o h = ap₂ (λ (x y : ℕ). x + 256 * y) (p.high o (omega arith)) (p.high (o + 1) (omega arith))
