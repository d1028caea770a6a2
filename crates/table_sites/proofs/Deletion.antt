-- Line k taken out: where the lines are then, what stays true of them, and that the book strikes just that line.
-- Assumes nothing.
use mathlib.Core.Path.{◌≡◌, refl, ap, sym}
use mathlib.Core.Logic.{⊎_elim}
use mathlib.Core.List.Memᴰ
use mathlib.Core.List.{List, [], ◌∷◌, ◌++◌, Memᴰ}
use Prim.Native.Nat.{ℕ, zero, suc, ◌+◌, ◌≤◌, ◌<◌}
use native.Mathlib.Numerals.{add-one}
use native.Mathlib.Omega.{arith}
use lib.ListN.{length, get_or, take, drop}
use borrow.Author.Tests.{eq-eqb, ne_eqb}
use Rattle.grid.specs.declared.Site.{Site}
use Rattle.book.specs.Book.{strike_line}
use Rattle.book.specs.Proper.{Rising}
use Rattle.table_sites.specs.Lines.{no_site, number_of, StandsAt}
use Rattle.table_sites.specs.Changes.{deleted}
use Rattle.table_sites.proofs.Order.{rising_tail, rising_cons, rising_at}
use Rattle.table_sites.proofs.Finding.{Missing, missing_tail, missing_after}

-- the same by recursion
without : ℕ → List Site → List Site
without k [] = []
without zero (q ∷ s) = s
without (suc k) (q ∷ s) = q ∷ without k s

cut_is : (k : ℕ) (s : List Site) → take k s ++ drop (suc k) s ≡ without k s
unfolding without
cut_is zero [] = refl
cut_is (suc k) [] = refl
cut_is zero (q ∷ s) = refl
cut_is (suc k) (q ∷ s) = ap (λ (l : List Site). q ∷ l) (cut_is k s)

deleted_is : (k : ℕ) (s : List Site) → deleted k s ≡ without k s
unfolding deleted
deleted_is k s = rw add-one (cut_is k s)

without_length : (k : ℕ) (s : List Site) → k < length s → length (without k s) + 1 ≡ length s
unfolding without
without_length k [] h = absurd (omega arith)
without_length zero (q ∷ s) h = omega arith
without_length (suc k) (q ∷ s) h = omega (arith, without_length k s (omega arith))

without_before : (k : ℕ) (s : List Site) (i : ℕ) → i < k → get_or (without k s) i no_site ≡ get_or s i no_site
unfolding without
without_before k [] i h = refl
without_before zero (q ∷ s) i h = absurd (omega arith)
without_before (suc k) (q ∷ s) zero h = refl
without_before (suc k) (q ∷ s) (suc i) h = without_before k s i (omega arith)

without_after : (k : ℕ) (s : List Site) (i : ℕ) → k ≤ i → get_or (without k s) i no_site ≡ get_or s (suc i) no_site
unfolding without
without_after k [] i h = refl
without_after zero (q ∷ s) i h = refl
without_after (suc k) (q ∷ s) zero h = absurd (omega arith)
without_after (suc k) (q ∷ s) (suc i) h = without_after k s i (omega arith)

without_member : (k : ℕ) (s : List Site) (x : Site) → Memᴰ x (without k s) → Memᴰ x s
unfolding without
without_member k [] x m = m
without_member zero (q ∷ s) x m = Memᴰ.tail m
without_member (suc k) (q ∷ s) x m =
    ⊎_elim (λ e. Memᴰ.head e) (λ n. Memᴰ.tail (without_member k s x n)) (Memᴰ.cases_cons m)

without_rising : (k : ℕ) (s : List Site) → Rising s → Rising (without k s)
unfolding without
without_rising k [] r = tt
without_rising zero (q ∷ s) r = rising_tail q s r
without_rising (suc k) (q ∷ s) r = rising_cons q (without k s) (λ g. first k s r g) (without_rising k s (rising_tail q s r))
  where
    first : (k : ℕ) (s : List Site) → Rising (q ∷ s) → 0 < length (without k s) → q.number < number_of (without k s) 0
    first k [] r g = absurd (omega arith)
    first zero (x ∷ s) r g = rising_at (q ∷ x ∷ s) r 0 2 (omega arith) (omega arith)
    first (suc k) (x ∷ s) r g = r.0

strike_none : (n : ℕ) (s : List Site) → Missing n s → strike_line n s ≡ s
unfolding strike_line
strike_none n [] h = refl
strike_none n (q ∷ s) h =
    rw (ne_eqb q.number n (h 0 (omega arith))) (ap (λ (l : List Site). q ∷ l) (strike_none n s (missing_tail n q s h)))

without_struck : (k n : ℕ) (s : List Site) → StandsAt k n s → Rising s → without k s ≡ strike_line n s
unfolding strike_line without
without_struck k n [] h r = refl
without_struck zero n (q ∷ s) h r = rw (eq-eqb q.number n h.number) (sym (strike_none n s (missing_after n q s h.number r)))
without_struck (suc k) n (q ∷ s) h r =
    let l : q.number < number_of (q ∷ s) (suc k) = rising_at (q ∷ s) r 0 (suc k) (omega arith) h.line in
    rw (ne_eqb q.number n (λ e. omega (arith, h.number)))
    (ap (λ (l : List Site). q ∷ l) (without_struck k n s (record { line = omega (arith, h.line); number = h.number }) (rising_tail q s r)))

module _ (k : ℕ) (s : List Site) where
  pub deleted_length : k < length s → length (deleted k s) + 1 ≡ length s
  deleted_length h = rw (deleted_is k s) (without_length k s h)

  pub deleted_before : (i : ℕ) → i < k → get_or (deleted k s) i no_site ≡ get_or s i no_site
  deleted_before i h = rw (deleted_is k s) (without_before k s i h)

  pub deleted_after : (i : ℕ) → k ≤ i → get_or (deleted k s) i no_site ≡ get_or s (suc i) no_site
  deleted_after i h = rw (deleted_is k s) (without_after k s i h)

  -- each line is an old one
  pub deleted_member : (x : Site) → Memᴰ x (deleted k s) → Memᴰ x s
  deleted_member x m = without_member k s x (rw (deleted_is k s) at m)

  -- numbers still rise
  pub deleted_rising : Rising s → Rising (deleted k s)
  deleted_rising r = rw (deleted_is k s) (without_rising k s r)

  -- the book strikes the line that the search found
  pub deleted_struck : {n : ℕ} → StandsAt k n s → Rising s → deleted k s ≡ strike_line n s
  deleted_struck {n} h r = rw (deleted_is k s) (without_struck k n s h r)
