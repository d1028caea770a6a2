-- Whether the stored list names a number: word by word.
-- Assumes nothing.
use mathlib.Core.Path.{◌≡◌, sym, ap, subst, ◌∙◌}
use mathlib.Core.List.{List, Memᴰ}
use Prim.Native.Nat.{ℕ, zero, suc, ◌+◌, ◌*◌, ◌≤◌, ◌<◌}
use native.Mathlib.Omega.{arith}
use native.Mathlib.Decide.{dec_lt}
use Rattle.words.specs.Words.{word_at}
use Rattle.table_header.specs.Header.{length_in}
use Rattle.table_standing.specs.Layout.{list_start}
use Rattle.table_standing.specs.Standing.{words_from, standing_in, stored_number}

-- none of the first i words is n
pub record Unnamed (b : List ℕ) (k n i : ℕ) : Type 0 where
  pub within : i ≤ k
  pub so_far : (j : ℕ) → j < i → stored_number b j ≡ n → ⊥

word_in : (b : List ℕ) (o k j : ℕ) → j < k → Memᴰ (word_at b (o + 2 * j)) (words_from b o k)
unfolding words_from
word_in b o zero j h = absurd (omega arith)
word_in b o (suc k) zero h = Memᴰ.head (ap (word_at b) (let e : o + 2 * 0 ≡ o = omega arith in e))
word_in b o (suc k) (suc j) h =
    let e : o + 2 + 2 * j ≡ o + 2 * suc j = omega arith in
    Memᴰ.tail (subst (λ (x : ℕ). Memᴰ (word_at b x) (words_from b (o + 2) k)) e (word_in b (o + 2) k j (omega arith)))

not_in : (b : List ℕ) (n o k : ℕ) → ((j : ℕ) → j < k → word_at b (o + 2 * j) ≡ n → ⊥) → ¬ Memᴰ n (words_from b o k)
unfolding words_from
not_in b n o zero h x'' = elim x'' [ ]
not_in b n o (suc k) h (Memᴰ.head e) = h 0 (omega arith) (ap (word_at b) (let z : o + 2 * 0 ≡ o = omega arith in z) ∙ sym e)
not_in b n o (suc k) h (Memᴰ.tail m) =
    not_in b n (o + 2) k (λ j g q. h (suc j) (omega arith) (ap (word_at b) (let z : o + 2 * suc j ≡ o + 2 + 2 * j = omega arith in z) ∙ q)) m

module _ (b : List ℕ) (k n : ℕ) where
  pub unnamed_none : Unnamed b k n 0
  unnamed_none = record { within = omega arith; so_far = λ j h. absurd (omega arith) }

  pub unnamed_one : (i m : ℕ) → i < k → Unnamed b k n i → m ≡ stored_number b i → (m ≡ n → ⊥) → Unnamed b k n (i + 1)
  unnamed_one i m h u e ne = record { within = omega arith; so_far = λ j g. go j g (dec_lt j i) }
    where
      go : (j : ℕ) → j < i + 1 → Dec (j < i) → stored_number b j ≡ n → ⊥
      go j g (yes d) = u.so_far j d
      go j g (no d) = λ q. let z : j ≡ i = omega arith in ne (e ∙ ap (λ (x : ℕ). stored_number b x) (sym z) ∙ q)

  pub named : (i m : ℕ) → k ≡ length_in b → i < k → m ≡ stored_number b i → m ≡ n → Memᴰ n (standing_in b)
  unfolding standing_in
  named i m ek h e q =
      subst (λ (x : ℕ). Memᴰ x (words_from b list_start (length_in b))) (sym e ∙ q) (word_in b list_start (length_in b) i (omega arith))

  pub unnamed_all : (i : ℕ) → k ≡ length_in b → k ≤ i → Unnamed b k n i → ¬ Memᴰ n (standing_in b)
  unfolding standing_in
  unnamed_all i ek h u = not_in b n list_start (length_in b) (λ j g. u.so_far j (omega arith))
