-- The test of zero bytes.
-- Assumes nothing.
use mathlib.Core.Path.{◌≡◌, refl, sym, ◌∙◌}
use mathlib.Core.Bool.{Bool, true, false}
use mathlib.Core.List.{List}
use Prim.Native.Nat.{ℕ, ◌+◌, ◌≤◌, ◌<◌}
use native.Mathlib.Omega.{arith}
use native.Mathlib.Decide.{dec_lt}
use lib.ListN.{get_or}
use lib.Dec.{eqb}
use borrow.Author.Tests.{eqb-true, eqb-false}
use Rattle.words.specs.Words.{word_at}
use Rattle.grid.specs.Says.{Says}
use Rattle.grid.proofs.Says.{says_map}
use Rattle.table_header.specs.Header.{ZeroFrom, FlagOk}

-- the bytes from lo up to i are 0
pub record Zeroing (b : List ℕ) (lo hi i : ℕ) : Type 0 where
  pub from : lo ≤ i
  pub so_far : ZeroFrom b lo i

pub zeroing_none : (b : List ℕ) (lo hi : ℕ) → Zeroing b lo hi lo
unfolding ZeroFrom
zeroing_none b lo hi = record { from = omega arith; so_far = λ i h k. absurd (omega arith) }

pub zeroing_one : (b : List ℕ) (lo hi i : ℕ) → Zeroing b lo hi i → get_or b i 0 ≡ 0 → Zeroing b lo hi (i + 1)
unfolding ZeroFrom
zeroing_one b lo hi i z h = record { from = omega (arith, z.from); so_far = λ j p q. go j p q (dec_lt j i) }
  where
    go : (j : ℕ) → lo ≤ j → j < i + 1 → Dec (j < i) → get_or b j 0 ≡ 0
    go j p q (yes k) = z.so_far j p k
    go j p q (no k) = let e : j ≡ i = omega arith in rw e h

pub zeroing_all : (b : List ℕ) (lo hi i : ℕ) → Zeroing b lo hi i → hi ≤ i → ZeroFrom b lo hi
unfolding ZeroFrom
zeroing_all b lo hi i z h j p q = z.so_far j p (omega arith)

pub not_zero : (b : List ℕ) (lo hi i : ℕ) → Zeroing b lo hi i → i < hi → (get_or b i 0 ≡ 0 → ⊥) → ¬ ZeroFrom b lo hi
unfolding ZeroFrom
not_zero b lo hi i z l h k = h (k i z.from l)

-- ---- zero words

-- the two bytes of a word that is 0
pub zero_word : (b : List ℕ) (i : ℕ) → word_at b i ≡ 0 → ZeroFrom b i (i + 2)
unfolding ZeroFrom word_at
zero_word b i h j p q = go (dec_lt j (i + 1))
  where
    go : Dec (j < i + 1) → get_or b j 0 ≡ 0
    go (yes k) = let e : j ≡ i = omega arith in rw e (omega arith)
    go (no k) = let e : j ≡ i + 1 = omega arith in rw e (omega arith)

-- zeros behind each other
pub zero_both : (b : List ℕ) (lo mid hi : ℕ) → ZeroFrom b lo mid → ZeroFrom b mid hi → ZeroFrom b lo hi
unfolding ZeroFrom
zero_both b lo mid hi f g j p q = go (dec_lt j mid)
  where
    go : Dec (j < mid) → get_or b j 0 ≡ 0
    go (yes k) = f j p k
    go (no k) = g j (omega arith) q

-- ---- a flag and what it is for

module _ (b : List ℕ) (i lo hi f : ℕ) (e : f ≡ word_at b i) where
  pub unset_ok : (r : Bool) → f ≡ 0 → Says r (ZeroFrom b lo hi) → Says r (FlagOk b i lo hi)
  unset_ok r z h = says_map r (λ k. record { flag = omega arith; unset = λ y. k }) (λ g. g.unset (sym e ∙ z)) h

  pub set_ok : (f ≡ 0 → ⊥) → Says (eqb f 1) (FlagOk b i lo hi)
  set_ok nz = go (eqb f 1) refl
    where
      go : (t : Bool) → eqb f 1 ≡ t → Says t (FlagOk b i lo hi)
      go true k = let one = eqb-true f 1 k in record { flag = omega arith; unset = λ y. absurd (nz (e ∙ y)) }
      go false k = λ g. eqb-false f 1 k (let h = g.flag in omega arith)
