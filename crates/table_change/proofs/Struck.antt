-- What is left of a book without one site, when that site has come or moved.
-- Assumes nothing.
use mathlib.Core.Path.{◌≡◌, refl, sym, ap, ◌∙◌}
use mathlib.Core.List.{List, [], ◌∷◌}
use Prim.Native.Nat.{ℕ, ◌<◌}
use native.Mathlib.Omega.{arith}
use native.Mathlib.Decide.{ℕ_discrete, dec_lt}
use Rattle.grid.specs.declared.Position.{Position}
use Rattle.grid.specs.declared.Site.{Site}
use Rattle.book.specs.Book.{write_line, strike_line, move_line}
use Rattle.book.proofs.Lines.{site_as, write_before, write_past, strike_here, strike_past, move_here, move_past}

strike_same : (n : ℕ) (q : Site) (s u : List Site) → strike_line n s ≡ strike_line n u → strike_line n (q ∷ s) ≡ strike_line n (q ∷ u)
strike_same n q s u e = go (ℕ_discrete q.number n)
  where
    go : Dec (q.number ≡ n) → strike_line n (q ∷ s) ≡ strike_line n (q ∷ u)
    go (yes h) = strike_here n q s h ∙ e ∙ sym (strike_here n q u h)
    go (no h) = strike_past n q s h ∙ ap (λ (y : List Site). q ∷ y) e ∙ sym (strike_past n q u h)

-- the others are as before where a line is written
pub strike_written : (p : Site) (s : List Site) → strike_line p.number (write_line p s) ≡ strike_line p.number s
unfolding write_line
strike_written p [] = strike_here p.number p [] refl
strike_written p (q ∷ s) = go (dec_lt p.number q.number) (strike_written p s)
  where
    go : Dec (p.number < q.number) → strike_line p.number (write_line p s) ≡ strike_line p.number s
        → strike_line p.number (write_line p (q ∷ s)) ≡ strike_line p.number (q ∷ s)
    go (yes h) ih = ap (strike_line p.number) (write_before p q s h) ∙ strike_here p.number p (q ∷ s) refl
    go (no h) ih = ap (strike_line p.number) (write_past p q s (omega arith)) ∙ strike_same p.number q (write_line p s) s ih

-- and where one is moved
pub strike_moved : (n : ℕ) (p : Position) (s : List Site) → strike_line n (move_line n p s) ≡ strike_line n s
unfolding move_line
strike_moved n p [] = refl
strike_moved n p (q ∷ s) = go (ℕ_discrete q.number n) (strike_moved n p s)
  where
    go : Dec (q.number ≡ n) → strike_line n (move_line n p s) ≡ strike_line n s → strike_line n (move_line n p (q ∷ s)) ≡ strike_line n (q ∷ s)
    go (yes h) ih = ap (strike_line n) (move_here n p q s h) ∙ strike_here n (site_as n p) (move_line n p s) refl ∙ ih ∙ sym (strike_here n q s h)
    go (no h) ih = ap (strike_line n) (move_past n p q s h) ∙ strike_same n q (move_line n p s) s ih
