-- A table that breaks a rule on the tour is refused with 65.
-- Assumes nothing.
use mathlib.Core.Path.{◌≡◌, refl, sym, subst, ◌∙◌}
use mathlib.Core.Bool.{true, false, Bool, cond, true≢false}
use Rattle.std.specs.Prelude.{Option, None, Some}
use mathlib.Core.List.{List}
use Prim.Native.Nat.{ℕ}
use native.Mathlib.Omega.{arith}
use lib.Dec.{eqb}
use borrow.Author.Tests.{eqb-true}
use Rattle.words.specs.Words.{word_at}
use Rattle.book.specs.declared.Tour.{Tour}
use Rattle.book.specs.Book.{sites_of}
use Rattle.book.specs.Proper.{LastHeld, TourFits, TourOk}
use Rattle.table_header.specs.Layout.{tour_start, corner_start, last_start}
use Rattle.table_header.specs.Header.{position_words, ZeroFrom, tour_at, tour_in}
use Rattle.table_rules.specs.Table.{book_of, Whole}
use Rattle.demands.specs.Batch.{lengths_ok}
use Rattle.demands.specs.Whole.{Call, MadeOn}
use Rattle.demands.specs.Demands.{RefusedWith}
use Rattle.demands.specs.TourRules.{BreaksTour}
use Rattle.demands.specs.TourRules.BreaksTour.{off_grid, not_held, other_flag, not_zero, not_kept}
use Rattle.demands.proofs.Demand1.{demand1}

-- the flag is 0 where no tour is under way
no_flag : (t : List ℕ) → tour_in t ≡ None → word_at t tour_start ≡ 0
unfolding tour_in
no_flag t e = go (eqb (word_at t tour_start) 0) refl (tour_at (position_words t corner_start) (word_at t last_start)) e
  where
    go : (c : Bool) → eqb (word_at t tour_start) 0 ≡ c → (k : Tour) → cond c None (Some k) ≡ None → word_at t tour_start ≡ 0
    go true f k g = eqb-true (word_at t tour_start) 0 f
    go false f k g = absurd (let x : ◌≡◌ {A = ℕ} 0 1 = cc in omega arith)

-- the rules of the tour that a table has which keeps the first half
whole_tour : (t : List ℕ) → Whole t → (k : Tour) → tour_in t ≡ Some k → TourFits k (sites_of (book_of t))
whole_tour t s k e = subst (λ (o : Option Tour). TourOk o (sites_of (book_of t))) e s.tour

-- SUCH A TABLE BREAKS NONE
pub tour_unbroken : (t : List ℕ) → BreaksTour t → ¬ Whole t
unfolding ZeroFrom
tour_unbroken t (off_grid k e n) s = n (whole_tour t s k e).on_grid
tour_unbroken t (not_held k n e f h) s =
    true≢false (sym (subst (λ (o : Option ℕ). LastHeld o (sites_of (book_of t))) f (whole_tour t s k e).held) ∙ h)
tour_unbroken t (other_flag l) s = omega (arith, l, s.header.tour.flag)
tour_unbroken t (not_zero e i l u n) s = n (s.header.tour.unset (no_flag t e) i l u)
tour_unbroken t (not_kept i l u n) s = n (s.header.kept i l u)

-- 65, in a call with a work buffer of the right length
pub tour_65 : (t : List ℕ) (c : Call) (t' : List ℕ) → MadeOn t c t' → lengths_ok t c.work ≡ true → BreaksTour t → RefusedWith 65 t c t'
tour_65 t c t' made ok b = (demand1 t c t' made).broken ok (tour_unbroken t b)
