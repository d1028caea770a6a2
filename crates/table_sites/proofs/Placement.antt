-- Line k at another position: where the lines are then, what stays true of them, and that the book moves just that line.
-- Assumes nothing.
use mathlib.Core.Path.{◌≡◌, refl, ap}
use mathlib.Core.Logic.{◌⊎◌, inl, inr, ⊎_elim}
use mathlib.Core.List.Memᴰ
use mathlib.Core.List.{List, [], ◌∷◌, Memᴰ}
use Prim.Native.Nat.{ℕ, zero, suc, ◌<◌}
use native.Mathlib.Omega.{arith}
use lib.ListN.{length, get_or, length-set}
use lib.Seq.{get_or-set_same, get_or-set_other}
use borrow.Author.Tests.{eq-eqb, ne_eqb}
use Rattle.grid.specs.declared.Position.{Position}
use Rattle.grid.specs.declared.Site.{Site}
use Rattle.book.specs.Book.{move_line}
use Rattle.book.specs.Proper.{Rising}
use Rattle.table_sites.specs.Lines.{no_site, number_of, StandsAt}
use Rattle.table_sites.specs.Changes.{placed}
use Rattle.table_sites.proofs.Order.{rising_tail, rising_cons, rising_at}
use Rattle.table_sites.proofs.Finding.{Missing, missing_tail, missing_after}

module _ (k : ℕ) (p : Position) (s : List Site) where
  pub placed_length : length (placed k p s) ≡ length s
  unfolding placed
  placed_length = simp length-set

  pub placed_at : k < length s → get_or (placed k p s) k no_site ≡ record { number = number_of s k; position = p }
  unfolding placed
  placed_at h = get_or-set_same s k _ no_site h

  pub placed_other : (i : ℕ) → (i ≡ k → ⊥) → get_or (placed k p s) i no_site ≡ get_or s i no_site
  unfolding placed
  placed_other i h = get_or-set_other s k i _ no_site h

-- each line is an old one, or has an old one's number and the new position
pub placed_member : (k : ℕ) (p : Position) (s : List Site) → k < length s → (x : Site) → Memᴰ x (placed k p s)
    → (x ≡ record { number = number_of s k; position = p }) ⊎ Memᴰ x s
unfolding placed
placed_member k p [] h x m = absurd (omega arith)
placed_member zero p (q ∷ s) h x m = ⊎_elim (λ e. inl e) (λ n. inr (Memᴰ.tail n)) (Memᴰ.cases_cons m)
placed_member (suc k) p (q ∷ s) h x m =
    ⊎_elim (λ e. inr (Memᴰ.head e))
    (λ n. ⊎_elim (λ e. inl e) (λ o. inr (Memᴰ.tail o)) (placed_member k p s (omega arith) x n))
    (Memᴰ.cases_cons m)

-- numbers still rise
pub placed_rising : (k : ℕ) (p : Position) (s : List Site) → Rising s → Rising (placed k p s)
unfolding placed
placed_rising k p [] r = tt
placed_rising zero p (q ∷ []) r = tt
placed_rising zero p (q ∷ x ∷ s) r = r
placed_rising (suc k) p (q ∷ s) r =
    rising_cons q (placed k p s) (λ g. first k s r g) (placed_rising k p s (rising_tail q s r))
  where
    first : (k : ℕ) (s : List Site) → Rising (q ∷ s) → 0 < length (placed k p s) → q.number < number_of (placed k p s) 0
    first k [] r g = absurd (omega arith)
    first zero (x ∷ s) r g = r.0
    first (suc k) (x ∷ s) r g = r.0

move_none : (n : ℕ) (p : Position) (s : List Site) → Missing n s → move_line n p s ≡ s
unfolding move_line
move_none n p [] h = refl
move_none n p (q ∷ s) h =
    rw (ne_eqb q.number n (h 0 (omega arith))) (ap (λ (l : List Site). q ∷ l) (move_none n p s (missing_tail n q s h)))

-- the book moves the line that the search found
pub placed_moved : (k : ℕ) (p : Position) (s : List Site) {n : ℕ} → StandsAt k n s → Rising s → placed k p s ≡ move_line n p s
unfolding move_line placed
placed_moved k p [] h r = absurd (omega (arith, h.line))
placed_moved zero p (q ∷ s) {n} h r =
    rw (eq-eqb q.number n h.number, move_none n p s (missing_after n q s h.number r))
    (λ j. record { number = h.number j; position = p } ∷ s)
placed_moved (suc k) p (q ∷ s) {n} h r =
    let l : q.number < number_of (q ∷ s) (suc k) = rising_at (q ∷ s) r 0 (suc k) (omega arith) h.line in
    rw (ne_eqb q.number n (λ e. omega (arith, h.number)))
    (ap (λ (l : List Site). q ∷ l) (placed_moved k p s (record { line = omega (arith, h.line); number = h.number }) (rising_tail q s r)))
