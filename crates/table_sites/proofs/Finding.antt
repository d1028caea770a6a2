-- Where a number stands among the lines: what that says of the book, and the loop of `find`.
-- Assumes nothing.
use mathlib.Core.Path.{◌≡◌, refl, ap, sym, ◌∙◌, subst}
use mathlib.Core.Bool.{true, false, ◌||◌}
use mathlib.Core.Logic.{◌≢◌}
use mathlib.Core.List.{List, [], ◌∷◌, Memᴰ}
use Prim.Native.Nat.{ℕ, zero, suc, ◌+◌, ◌-◌, ◌≤◌, ◌<◌}
use native.Mathlib.Omega.{arith}
use native.Mathlib.Decide.{dec_lt}
use lib.ListN.{length, get_or}
use lib.Dec.{eqb}
use borrow.Author.Tests.{eq-eqb, ne_eqb}
use Rattle.words.specs.Words.{word_at}
use Rattle.grid.specs.declared.Site.{Site}
use Rattle.book.specs.Book.{holds}
use Rattle.book.specs.Proper.{Rising}
use Rattle.table_header.specs.Header.{count_in}
use Rattle.table_sites.specs.Layout.{record_start}
use Rattle.table_sites.specs.Lines.{lines_in, no_site, number_of, Array, StandsAt, StandsNowhere, FoundAs, Narrowed}
use Rattle.std.specs.Prelude.{Result, Ok, Err}
use Rattle.table_sites.proofs.Reading.{lines_length, number_at_lem}
use Rattle.table_sites.proofs.Order.{rising_at, rising_gap}

-- no line has the number n
abbrev pub Missing : ℕ → List Site → Type 0
Missing n s = (i : ℕ) → i < length s → number_of s i ≡ n → ⊥

pub missing_tail : (n : ℕ) (q : Site) (s : List Site) → Missing n (q ∷ s) → Missing n s
missing_tail n q s h i g = h (suc i) (omega arith)

-- where numbers rise, the number of the first line stands in no other
pub missing_after : (n : ℕ) (q : Site) (s : List Site) → q.number ≡ n → Rising (q ∷ s) → Missing n s
missing_after n q s e r i g f = omega (arith, rising_at (q ∷ s) r 0 (suc i) (omega arith) (omega arith))

pub not_held : (n : ℕ) (s : List Site) → Missing n s → holds n s ≡ false
unfolding holds
not_held n [] h = refl
not_held n (q ∷ s) h = rw (ne_eqb q.number n (h 0 (omega arith))) (not_held n s (missing_tail n q s h))

held : (n : ℕ) (s : List Site) (k : ℕ) → k < length s → number_of s k ≡ n → holds n s ≡ true
unfolding holds
held n [] k h e = absurd (omega arith)
held n (q ∷ s) zero h e = rw (eq-eqb q.number n e)
held n (q ∷ s) (suc k) h e = go (eqb q.number n) (held n s k (omega arith) e)
  where
    go : (t : _) → holds n s ≡ true → (t || holds n s) ≡ true
    go true f = refl
    go false f = f

pub member : (s : List Site) (k : ℕ) → k < length s → Memᴰ (get_or s k no_site) s
member [] k h = absurd (omega arith)
member (q ∷ s) zero h = Memᴰ.head refl
member (q ∷ s) (suc k) h = Memᴰ.tail (member s k (omega arith))

-- What `find` says, in the arm of a match on its answer, and of the book.
module _ {k n : ℕ} {s : List Site} where
  pub found_at : {r : Result ℕ ℕ} → r ≡ Ok k → FoundAs r n s → StandsAt k n s
  found_at e h = subst (λ (r : Result ℕ ℕ). FoundAs r n s) e h

  pub found_absent : {r : Result ℕ ℕ} → r ≡ Err k → FoundAs r n s → StandsNowhere k n s
  found_absent e h = subst (λ (r : Result ℕ ℕ). FoundAs r n s) e h

  pub at_held : StandsAt k n s → holds n s ≡ true
  at_held h = held n s k h.line h.number

  pub at_member : StandsAt k n s → Memᴰ (get_or s k no_site) s
  at_member h = member s k h.line

  pub absent_missing : StandsNowhere k n s → Missing n s
  absent_missing h i g e = go (dec_lt i k)
    where
      go : Dec (i < k) → ⊥
      go (yes f) = omega (arith, h.lower i f)
      go (no f) = omega (arith, h.higher i (omega arith) g)

  pub absent_held : StandsNowhere k n s → holds n s ≡ false
  absent_held h = not_held n s (absent_missing h)

-- the line is one of the table's records
pub at_counted : (b : List ℕ) {k n : ℕ} → StandsAt k n (lines_in b) → k < count_in b
at_counted b h = omega (arith, h.line, lines_length b)

pub absent_counted : (b : List ℕ) {k n : ℕ} → StandsNowhere k n (lines_in b) → k ≤ count_in b
absent_counted b h = omega (arith, h.within, lines_length b)

pub find_begun : (b : List ℕ) (n : ℕ) {hi : ℕ} → hi ≡ count_in b → Narrowed b n 0 hi
find_begun b n e =
    record {
      order = omega arith;
      within = omega arith;
      lower = λ i h. absurd (omega arith);
      higher = λ i h g. absurd (omega arith);
    }

module _ {b : List ℕ} {n lo hi mid m : ℕ} (a : Array b) (w : Narrowed b n lo hi) (e : m ≡ word_at b (record_start mid)) (g : mid < hi) where
  is : m ≡ number_of (lines_in b) mid
  is = e ∙ sym (number_at_lem b mid (omega (arith, w.within)))

  pub find_up : m < n → Narrowed b n (mid + 1) hi
  find_up h =
      record {
        order = omega arith;
        within = w.within;
        lower = λ i f. go i f (dec_lt i mid);
        higher = w.higher;
      }
    where
      go : (i : ℕ) → i < mid + 1 → Dec (i < mid) → number_of (lines_in b) i < n
      go i f (yes l) =
          omega
          (arith, is, rising_at (lines_in b) a.rising i mid l (omega (arith, lines_length b, w.within)))
      go i f (no l) =
          let q : i ≡ mid = omega arith in
          omega (arith, is, ap (λ (j : ℕ). number_of (lines_in b) j) q)

  pub find_down : lo ≤ mid → n < m → Narrowed b n lo mid
  find_down o h =
      record {
        order = o;
        within = omega (arith, w.within);
        lower = w.lower;
        higher = λ i f l. go i f l (dec_lt mid i);
      }
    where
      go : (i : ℕ) → mid ≤ i → i < count_in b → Dec (mid < i) → n < number_of (lines_in b) i
      go i f l (yes u) =
          omega (arith, is, rising_at (lines_in b) a.rising mid i u (omega (arith, lines_length b)))
      go i f l (no u) =
          let q : i ≡ mid = omega arith in
          omega (arith, is, ap (λ (j : ℕ). number_of (lines_in b) j) q)

  pub find_at : m ≡ n → StandsAt mid n (lines_in b)
  find_at h = record { line = omega (arith, lines_length b, w.within); number = omega (arith, is) }

pub find_absent : {b : List ℕ} {n lo hi : ℕ} → Narrowed b n lo hi → hi ≤ lo → StandsNowhere lo n (lines_in b)
find_absent {b} w h =
    record {
      within = omega (arith, lines_length b, w.order, w.within);
      lower = w.lower;
      higher = λ i f l. w.higher i (omega arith) (omega (arith, lines_length b));
    }

-- The first look, at a record that is guessed.
pub find_none : (b : List ℕ) (n k : ℕ) → k ≡ count_in b → k ≡ 0 → StandsNowhere 0 n (lines_in b)
find_none b n k e z = find_absent (find_begun b n e) (omega arith)

module _ (b : List ℕ) (n k at m : ℕ) (a : Array b) (e : k ≡ count_in b) (g : at < k) (q : m ≡ word_at b (record_start at)) where
  pub guessed_at : m ≡ n → StandsAt at n (lines_in b)
  guessed_at h = find_at a (find_begun b n e) q g h

  pub guessed_low : m < n → Narrowed b n (at + 1) k
  guessed_low h = find_up a (find_begun b n e) q g h

  pub guessed_high : (d lo : ℕ) → m ≢ n → n ≤ m → d ≡ m - n → lo ≡ at - d → Narrowed b n lo at
  guessed_high d lo h f ed el =
      let w : Narrowed b n 0 at = find_down a (find_begun b n e) q g (omega arith) (omega arith) in
      record {
        order = omega arith;
        within = w.within;
        lower = λ i j.
            let x : i + (at - i) ≡ at = omega arith in
            omega (
              arith,
              is a (find_begun b n e) q g,
              rising_gap (lines_in b) a.rising i (at - i) (omega (arith, lines_length b)),
              ap (λ (y : ℕ). number_of (lines_in b) y) x,
            );
        higher = w.higher;
      }
