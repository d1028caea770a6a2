-- Where the number of a line stands that has come or moved: where it was looked for.
-- Assumes nothing.
use mathlib.Core.Path.{◌≡◌, refl, sym, ap, subst, ◌∙◌}
use mathlib.Core.List.{List, [], ◌∷◌}
use Prim.Native.Nat.{ℕ, zero, suc, ◌<◌}
use native.Mathlib.Omega.{arith}
use native.Mathlib.Decide.{ℕ_discrete}
use lib.ListN.{length}
use Rattle.grid.specs.declared.Position.{Position}
use Rattle.grid.specs.declared.Site.{Site}
use Rattle.book.specs.Book.{write_line, move_line}
use Rattle.book.proofs.Lines.{site_as, write_before, write_past, move_here, move_past}
use Rattle.table_sites.specs.Lines.{number_of, StandsAt, StandsNowhere}

stands_head : (p : Site) (s : List Site) → StandsAt 0 p.number (p ∷ s)
stands_head p s = record { line = omega arith; number = refl }

stands_tail : (k n : ℕ) (q : Site) (s : List Site) → StandsAt k n s → StandsAt (suc k) n (q ∷ s)
stands_tail k n q s h = record { line = omega (arith, h.line); number = h.number }

nowhere_tail : (k n : ℕ) (q : Site) (s : List Site) → StandsNowhere (suc k) n (q ∷ s) → StandsNowhere k n s
nowhere_tail k n q s h =
    record {
      within = omega (arith, h.within);
      lower = λ i g. h.lower (suc i) (omega arith);
      higher = λ i g f. h.higher (suc i) (omega arith) (omega arith);
    }

-- A LINE IS WRITTEN where its number would have stood
pub written_at : (k : ℕ) (p : Site) (s : List Site) → StandsNowhere k p.number s → StandsAt k p.number (write_line p s)
unfolding write_line
written_at zero p [] h = stands_head p []
written_at (suc k) p [] h = absurd (omega (arith, h.within))
written_at zero p (q ∷ s) h =
    subst (StandsAt 0 p.number) (sym (write_before p q s (h.higher 0 (omega arith) (omega arith)))) (stands_head p (q ∷ s))
written_at (suc k) p (q ∷ s) h =
    let low : q.number < p.number = h.lower 0 (omega arith) in
    subst (StandsAt (suc k) p.number) (sym (write_past p q s (omega arith)))
    (stands_tail k p.number q (write_line p s) (written_at k p s (nowhere_tail k p.number q s h)))

moved_length : (n : ℕ) (p : Position) (s : List Site) → length (move_line n p s) ≡ length s
unfolding move_line
moved_length n p [] = refl
moved_length n p (q ∷ s) = go (ℕ_discrete q.number n) (moved_length n p s)
  where
    go : Dec (q.number ≡ n) → length (move_line n p s) ≡ length s → length (move_line n p (q ∷ s)) ≡ length (q ∷ s)
    go (yes h) ih = ap length (move_here n p q s h) ∙ ap suc ih
    go (no h) ih = ap length (move_past n p q s h) ∙ ap suc ih

moved_number : (n : ℕ) (p : Position) (s : List Site) (k : ℕ) → number_of (move_line n p s) k ≡ number_of s k
unfolding move_line
moved_number n p [] k = refl
moved_number n p (q ∷ s) k = go (ℕ_discrete q.number n) (moved_number n p s)
  where
    head : (x : Site) → x.number ≡ q.number → (j : ℕ) → ((i : ℕ) → number_of (move_line n p s) i ≡ number_of s i) → number_of (x ∷ move_line n p s) j ≡ number_of (q ∷ s) j
    head x e zero ih = e
    head x e (suc j) ih = ih j

    go : Dec (q.number ≡ n) → ((i : ℕ) → number_of (move_line n p s) i ≡ number_of s i) → number_of (move_line n p (q ∷ s)) k ≡ number_of (q ∷ s) k
    go (yes h) ih = ap (λ (x : List Site). number_of x k) (move_here n p q s h) ∙ head (site_as n p) (sym h) k ih
    go (no h) ih = ap (λ (x : List Site). number_of x k) (move_past n p q s h) ∙ head q refl k ih

-- A LINE IS MOVED and stands where it stood
pub moved_at : (k n : ℕ) (p : Position) (s : List Site) → StandsAt k n s → StandsAt k n (move_line n p s)
moved_at k n p s h = record { line = omega (arith, h.line, moved_length n p s); number = moved_number n p s k ∙ h.number }
