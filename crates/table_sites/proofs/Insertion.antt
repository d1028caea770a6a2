-- A line put before line k: where the lines are then, what stays true of them, and that the book's line is written there.
-- Assumes nothing.
use mathlib.Core.Path.{◌≡◌, refl, ap}
use mathlib.Core.Logic.{◌⊎◌, inl, inr, ⊎_elim}
use mathlib.Core.List.Memᴰ
use mathlib.Core.List.{List, [], ◌∷◌, Memᴰ}
use Prim.Native.Nat.{ℕ, zero, suc, ◌+◌, ◌≤◌, ◌<◌}
use native.Mathlib.Omega.{arith}
use lib.ListN.{length, get_or}
use borrow.Author.Tests.{lt-ltb, le-ltb}
use Rattle.grid.specs.declared.Site.{Site}
use Rattle.book.specs.Book.{write_line}
use Rattle.book.specs.Proper.{Rising}
use Rattle.table_sites.specs.Lines.{no_site, number_of, StandsNowhere}
use Rattle.table_sites.specs.Changes.{inserted}
use Rattle.table_sites.proofs.Order.{rising_tail, rising_cons}

pub inserted_length : (k : ℕ) (p : Site) (s : List Site) → k ≤ length s → length (inserted k p s) ≡ length s + 1
unfolding inserted
inserted_length zero p s h = omega arith
inserted_length (suc k) p [] h = absurd (omega arith)
inserted_length (suc k) p (q ∷ s) h = omega (arith, inserted_length k p s (omega arith))

pub inserted_before : (k : ℕ) (p : Site) (s : List Site) (i : ℕ) → k ≤ length s → i < k → get_or (inserted k p s) i no_site ≡ get_or s i no_site
unfolding inserted
inserted_before zero p s i h g = absurd (omega arith)
inserted_before (suc k) p [] i h g = absurd (omega arith)
inserted_before (suc k) p (q ∷ s) zero h g = refl
inserted_before (suc k) p (q ∷ s) (suc i) h g = inserted_before k p s i (omega arith) (omega arith)

pub inserted_at : (k : ℕ) (p : Site) (s : List Site) → k ≤ length s → get_or (inserted k p s) k no_site ≡ p
unfolding inserted
inserted_at zero p s h = refl
inserted_at (suc k) p [] h = absurd (omega arith)
inserted_at (suc k) p (q ∷ s) h = inserted_at k p s (omega arith)

pub inserted_after : (k : ℕ) (p : Site) (s : List Site) (i : ℕ) → k ≤ length s → k ≤ i → get_or (inserted k p s) (suc i) no_site ≡ get_or s i no_site
unfolding inserted
inserted_after zero p s i h g = refl
inserted_after (suc k) p [] i h g = absurd (omega arith)
inserted_after (suc k) p (q ∷ s) zero h g = absurd (omega arith)
inserted_after (suc k) p (q ∷ s) (suc i) h g = inserted_after k p s i (omega arith) (omega arith)

-- each line is the new one or an old one
pub inserted_member : (k : ℕ) (p : Site) (s : List Site) (x : Site) → Memᴰ x (inserted k p s) → (x ≡ p) ⊎ Memᴰ x s
unfolding inserted
inserted_member zero p s x m = Memᴰ.cases_cons m
inserted_member (suc k) p [] x m = Memᴰ.cases_cons m
inserted_member (suc k) p (q ∷ s) x m =
    ⊎_elim (λ e. inr (Memᴰ.head e))
    (λ n. ⊎_elim (λ e. inl e) (λ o. inr (Memᴰ.tail o)) (inserted_member k p s x n))
    (Memᴰ.cases_cons m)

-- the search that ended at k among the lines q ∷ s went on at k - 1 among s
absent_tail : {k n : ℕ} {q : Site} {s : List Site} → StandsNowhere (suc k) n (q ∷ s) → StandsNowhere k n s
absent_tail h =
    record {
      within = omega (arith, h.within);
      lower = λ i g. h.lower (suc i) (omega arith);
      higher = λ i g f. h.higher (suc i) (omega arith) (omega arith);
    }

-- the book writes the line where the search ended
pub inserted_written : (k : ℕ) (p : Site) (s : List Site) → StandsNowhere k p.number s → inserted k p s ≡ write_line p s
unfolding inserted write_line
inserted_written zero p [] h = refl
inserted_written zero p (q ∷ s) h = rw (lt-ltb p.number q.number (h.higher 0 (omega arith) (omega arith)))
inserted_written (suc k) p [] h = absurd (omega (arith, h.within))
inserted_written (suc k) p (q ∷ s) h =
    let l : q.number < p.number = h.lower 0 (omega arith) in
    rw (le-ltb p.number q.number (omega arith)) (ap (λ (l : List Site). q ∷ l) (inserted_written k p s (absent_tail h)))

-- numbers still rise
pub inserted_rising : (k : ℕ) (p : Site) (s : List Site) → StandsNowhere k p.number s → Rising s → Rising (inserted k p s)
unfolding inserted
inserted_rising zero p s h r = rising_cons p s (λ g. h.higher 0 (omega arith) g) r
inserted_rising (suc k) p [] h r = tt
inserted_rising (suc k) p (q ∷ s) h r =
    rising_cons q (inserted k p s) (λ g. first k s (absent_tail h) r (h.lower 0 (omega arith)))
    (inserted_rising k p s (absent_tail h) (rising_tail q s r))
  where
    first : (k : ℕ) (s : List Site) → StandsNowhere k p.number s → Rising (q ∷ s) → q.number < p.number → q.number < number_of (inserted k p s) 0
    first zero s h r l = l
    first (suc k) [] h r l = l
    first (suc k) (x ∷ s) h r l = r.0
