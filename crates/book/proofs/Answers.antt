-- The book's answer, cause by cause: each command's tests as plain facts, both ways.
-- Assumes nothing.
use mathlib.Core.Path.{◌≡◌, refl, sym, ap, ◌∙◌}
use mathlib.Core.Logic.{◌≢◌}
use mathlib.Core.Bool.{Bool, true, false, cond, not, ◌&&◌, true≢false}
use mathlib.Core.List.{List, [], ◌∷◌}
use Rattle.std.specs.Prelude.{Option, None, Some}
use Prim.Native.Nat.{ℕ}
use native.Mathlib.Omega.{arith}
use lib.ListN.{length}
use lib.Dec.{leb}
use borrow.Author.Tests.{eq-eqb, ne_eqb, eqb-false, le-leb, leb-true, not-false}
use Rattle.limits.specs.Limits.{grid_width, max_sites}
use Rattle.grid.specs.declared.Position.{Position}
use Rattle.grid.specs.declared.Leg.{Leg}
use Rattle.grid.specs.Position.{OnGrid, LegOnGrid}
use Rattle.readings.specs.declared.Location.{Location}
use Rattle.readings.specs.declared.Location.TheVariants.{InSteps}
use Rattle.readings.specs.Location.{finite_in, placed}
use Rattle.split.specs.SplitList.{Entry}
use Rattle.split.specs.SplitOf.{split_of}
use Rattle.book.specs.declared.Command.{Command}
use Rattle.book.specs.declared.Command.TheVariants.{Add, Remove, Move, List as ListOf, Stand, Print, Begin, Corner}
use Rattle.book.specs.declared.Cause.{Cause}
use Rattle.book.specs.declared.Cause.TheVariants.{NumberZero, OffGrid, Held, NotHeld, Full, NoSite, NoLeg, NoTour, NotFinite}
use Rattle.book.specs.declared.Tour.{Tour}
use Rattle.book.specs.Tour.{leg_to, tour_leg, remembered, left_out}
use Rattle.book.specs.Book.{Book, sites_of, list_of, holds, change}
use Rattle.book.specs.Reply.{Reply, done, refused, listed}
use Rattle.book.specs.Answer.{Test, off_grid, leg_off_grid, legless, tourless, tests, first_cause, accepted, answer}

-- ---- the tests on positions, as facts

on_grid : (p : Position) → OnGrid p → off_grid p ≡ false
on_grid p h = rw (le-leb p.east grid_width h.east, le-leb p.north grid_width h.north) refl

grid_on : (p : Position) → off_grid p ≡ false → OnGrid p
grid_on p h = go (leb p.east grid_width) refl (leb p.north grid_width) refl (not-false _ h)
  where
    go : (c : Bool) → leb p.east grid_width ≡ c → (d : Bool) → leb p.north grid_width ≡ d → (c && d) ≡ true → OnGrid p
    go true e true f k = record { east = leb-true _ _ e; north = leb-true _ _ f }
    go true e false f k = absurd (true≢false (sym k))
    go false e d f k = absurd (true≢false (sym k))

off_grid_lem : (p : Position) → ¬ OnGrid p → off_grid p ≡ true
off_grid_lem p h = go (off_grid p) refl
  where
    go : (c : Bool) → off_grid p ≡ c → c ≡ true
    go true e = refl
    go false e = absurd (h (grid_on p e))

leg_on : (l : Leg) → LegOnGrid l → leg_off_grid l ≡ false
leg_on l h = rw (on_grid l.s h.s, on_grid l.e h.e) refl

on_leg : (l : Leg) → leg_off_grid l ≡ false → LegOnGrid l
on_leg l h = go (off_grid l.s) refl (off_grid l.e) refl (not-false _ h)
  where
    go : (c : Bool) → off_grid l.s ≡ c → (d : Bool) → off_grid l.e ≡ d → (not c && not d) ≡ true → LegOnGrid l
    go false e false f k = record { s = grid_on l.s e; e = grid_on l.e f }
    go false e true f k = absurd (true≢false (sym k))
    go true e d f k = absurd (true≢false (sym k))

leg_off : (l : Leg) → ¬ LegOnGrid l → leg_off_grid l ≡ true
leg_off l h = go (leg_off_grid l) refl
  where
    go : (c : Bool) → leg_off_grid l ≡ c → c ≡ true
    go true e = refl
    go false e = absurd (h (on_leg l e))

-- ---- 41 and 61: a site is added

module _ (b : Book) (n : ℕ) (l : Location) where
  -- cause 1: the number is 0
  pub answer_add_zero : n ≡ 0 → answer b (Add n l) ≡ refused NumberZero
  unfolding answer
  answer_add_zero z = rw (eq-eqb n 0 z) refl

  module _ (z : n ≢ 0) where
    -- cause 11: a reading is not finite
    pub answer_add_not_finite : finite_in l ≡ false → answer b (Add n l) ≡ refused NotFinite
    unfolding answer
    answer_add_not_finite f = rw (ne_eqb n 0 z, f) refl

    module _ (f : finite_in l ≡ true) where
      -- cause 2: off the grid
      pub answer_add_off : ¬ OnGrid (placed l) → answer b (Add n l) ≡ refused OffGrid
      unfolding answer
      answer_add_off g = rw (ne_eqb n 0 z, f, off_grid_lem (placed l) g) refl

      module _ (g : OnGrid (placed l)) where
        -- cause 3: the number is held
        pub answer_add_held : holds n b.lines ≡ true → answer b (Add n l) ≡ refused Held
        unfolding answer
        answer_add_held h = rw (ne_eqb n 0 z, f, on_grid (placed l) g, h) refl

        -- cause 5: 512 sites are held
        pub answer_add_full : holds n b.lines ≡ false → length b.lines ≡ max_sites → answer b (Add n l) ≡ refused Full
        unfolding answer
        answer_add_full h k = rw (ne_eqb n 0 z, f, on_grid (placed l) g, h, eq-eqb (length b.lines) max_sites k) refl

        -- no cause
        pub answer_add_done : holds n b.lines ≡ false → length b.lines ≢ max_sites → answer b (Add n l) ≡ done
        unfolding answer
        answer_add_done h k = rw (ne_eqb n 0 z, f, on_grid (placed l) g, h, ne_eqb (length b.lines) max_sites k) refl

-- ---- 44: a site is removed

module _ (b : Book) (n : ℕ) where
  -- cause 1: the number is 0
  pub answer_remove_zero : n ≡ 0 → answer b (Remove n) ≡ refused NumberZero
  unfolding answer
  answer_remove_zero z = rw (eq-eqb n 0 z) refl

  -- cause 4: the number is not held
  pub answer_remove_absent : n ≢ 0 → holds n b.lines ≡ false → answer b (Remove n) ≡ refused NotHeld
  unfolding answer
  answer_remove_absent z h = rw (ne_eqb n 0 z, h) refl

  -- no cause
  pub answer_remove_done : n ≢ 0 → holds n b.lines ≡ true → answer b (Remove n) ≡ done
  unfolding answer
  answer_remove_done z h = rw (ne_eqb n 0 z, h) refl

-- ---- 4D and 6D: a site is moved

module _ (b : Book) (n : ℕ) (l : Location) where
  -- cause 1: the number is 0
  pub answer_move_zero : n ≡ 0 → answer b (Move n l) ≡ refused NumberZero
  unfolding answer
  answer_move_zero z = rw (eq-eqb n 0 z) refl

  module _ (z : n ≢ 0) where
    -- cause 11: a reading is not finite
    pub answer_move_not_finite : finite_in l ≡ false → answer b (Move n l) ≡ refused NotFinite
    unfolding answer
    answer_move_not_finite f = rw (ne_eqb n 0 z, f) refl

    module _ (f : finite_in l ≡ true) where
      -- cause 2: off the grid
      pub answer_move_off : ¬ OnGrid (placed l) → answer b (Move n l) ≡ refused OffGrid
      unfolding answer
      answer_move_off g = rw (ne_eqb n 0 z, f, off_grid_lem (placed l) g) refl

      module _ (g : OnGrid (placed l)) where
        -- cause 4: the number is not held
        pub answer_move_absent : holds n b.lines ≡ false → answer b (Move n l) ≡ refused NotHeld
        unfolding answer
        answer_move_absent h = rw (ne_eqb n 0 z, f, on_grid (placed l) g, h) refl

        -- no cause
        pub answer_move_done : holds n b.lines ≡ true → answer b (Move n l) ≡ done
        unfolding answer
        answer_move_done h = rw (ne_eqb n 0 z, f, on_grid (placed l) g, h) refl

-- ---- FINITE READINGS ARE ANSWERED AS THEIR STEPS

module _ (b : Book) (n : ℕ) (l : Location) (f : finite_in l ≡ true) (p : Position) (is : placed l ≡ p) where
  pub same_add : answer b (Add n l) ≡ answer b (Add n (InSteps p))
  unfolding answer
  same_add = rw (f, is) refl

  pub same_move : answer b (Move n l) ≡ answer b (Move n (InSteps p))
  unfolding answer
  same_move = rw (f, is) refl

-- and do what their steps do
module _ (b : Book) (n : ℕ) (l : Location) (p : Position) (is : placed l ≡ p) where
  pub same_added : change (Add n l) b ≡ change (Add n (InSteps p)) b
  unfolding change
  same_added = rw is refl

  pub same_moved : change (Move n l) b ≡ change (Move n (InSteps p)) b
  unfolding change
  same_moved = rw is refl

-- ---- 4C: the split list of a leg

module _ (b : Book) (l : Leg) where
  -- cause 2: off the grid
  pub answer_list_off : ¬ LegOnGrid l → answer b (ListOf l) ≡ refused OffGrid
  unfolding answer
  answer_list_off g = rw (leg_off l g) refl

  -- cause 6: no site is held
  pub answer_list_empty : LegOnGrid l → length (sites_of b) ≡ 0 → answer b (ListOf l) ≡ refused NoSite
  unfolding answer
  answer_list_empty g h = rw (leg_on l g, eq-eqb (length (sites_of b)) 0 h) refl

  -- no cause: the list of the leg
  pub answer_list_done : LegOnGrid l → length (sites_of b) ≢ 0 → answer b (ListOf l) ≡ listed (split_of l (sites_of b))
  unfolding answer
  answer_list_done g h = rw (leg_on l g, ne_eqb (length (sites_of b)) 0 h) refl

  -- ---- 53: the standing leg is set

  -- cause 2: off the grid
  pub answer_stand_off : ¬ LegOnGrid l → answer b (Stand l) ≡ refused OffGrid
  unfolding answer
  answer_stand_off g = rw (leg_off l g) refl

  -- no cause
  pub answer_stand_done : LegOnGrid l → answer b (Stand l) ≡ done
  unfolding answer
  answer_stand_done g = rw (leg_on l g) refl

-- ---- 50: the standing list

module _ (b : Book) where
  -- cause 7: no leg stands
  pub answer_print_legless : b.leg ≡ None → answer b Print ≡ refused NoLeg
  unfolding answer
  answer_print_legless h = rw h refl

  -- cause 6: no site is held
  pub answer_print_empty : (l : Leg) → b.leg ≡ Some l → length (sites_of b) ≡ 0 → answer b Print ≡ refused NoSite
  unfolding answer
  answer_print_empty l h e = rw (h, eq-eqb (length (sites_of b)) 0 e) refl

  -- no cause: the list of the standing leg
  pub answer_print_done : (l : Leg) → b.leg ≡ Some l → length (sites_of b) ≢ 0
      → answer b Print ≡ listed (split_of l (sites_of b))
  unfolding answer
  answer_print_done l h e = rw (h, ne_eqb (length (sites_of b)) 0 e) refl

-- ---- 42: a tour begins

module _ (b : Book) (p : Position) where
  -- cause 2: off the grid
  pub answer_begin_off : ¬ OnGrid p → answer b (Begin p) ≡ refused OffGrid
  unfolding answer
  answer_begin_off g = rw (off_grid_lem p g) refl

  -- no cause
  pub answer_begin_done : OnGrid p → answer b (Begin p) ≡ done
  unfolding answer
  answer_begin_done g = rw (on_grid p g) refl

  -- ---- 43: a tour's next leg

  -- cause 8: no tour
  pub answer_corner_tourless : b.tour ≡ None → answer b (Corner p) ≡ refused NoTour
  unfolding answer
  answer_corner_tourless h = rw h refl

  module _ (k : Tour) (h : b.tour ≡ Some k) where
    -- cause 2: off the grid
    pub answer_corner_off : ¬ OnGrid p → answer b (Corner p) ≡ refused OffGrid
    unfolding answer
    answer_corner_off g = rw (h, off_grid_lem p g) refl

    -- cause 6: no site is held
    pub answer_corner_empty : OnGrid p → length (sites_of b) ≡ 0 → answer b (Corner p) ≡ refused NoSite
    unfolding answer
    answer_corner_empty g e = rw (h, on_grid p g, eq-eqb (length (sites_of b)) 0 e) refl

    -- no cause: the list of the leg, without what is left out
    pub answer_corner_done : OnGrid p → length (sites_of b) ≢ 0
        → answer b (Corner p) ≡ listed (left_out k.last (split_of (leg_to k p) (sites_of b)))
    unfolding answer
    answer_corner_done g e = rw (h, on_grid p g, ne_eqb (length (sites_of b)) 0 e) refl

-- ---- what an answer says

done_not_refused : (x : Cause) → refused x ≢ done
done_not_refused x e = let z : ◌≡◌ {A = ℕ} 0 1 = cc in omega arith

pub done_not_listed : (es : List Entry) → done ≢ listed es
done_not_listed es e = let z : ◌≡◌ {A = ℕ} 0 1 = cc in omega arith

listed_not_refused : (es : List Entry) (x : Cause) → refused x ≢ listed es
listed_not_refused es x e = let z : ◌≡◌ {A = ℕ} 0 1 = cc in omega arith

listed_one : (es fs : List Entry) → listed es ≡ listed fs → es ≡ fs
listed_one es fs e = cc

-- no test's cause is met
abbrev NoneMet : List Test → Type 0
NoneMet [] = Unit {0}
NoneMet (t ∷ ts) = (t.met ≡ false) × NoneMet ts

-- NOT REFUSED: no cause is met, and the answer is that of an accepted command
none_met : (ts : List Test) (y z : Reply) → ((x : Cause) → refused x ≢ z) → first_cause ts y ≡ z → NoneMet ts × (y ≡ z)
none_met [] y z h e = (tt, e)
none_met (t ∷ ts) y z h e = go t.met refl e (none_met ts y z h)
  where
    go : (c : Bool) → t.met ≡ c → cond c (refused t.cause) (first_cause ts y) ≡ z
        → (first_cause ts y ≡ z → NoneMet ts × (y ≡ z)) → NoneMet (t ∷ ts) × (y ≡ z)
    go true f k ih = absurd (h t.cause k)
    go false f k ih = let (n, q) = ih k in ((f, n), q)

-- a list answered: no cause is met, and the list is what an accepted command is answered
none_listed : (b : Book) (c : Command) (es : List Entry) → answer b c ≡ listed es
    → NoneMet (tests b c) × (accepted b c ≡ listed es)
unfolding answer
none_listed b c es h = none_met (tests b c) (accepted b c) (listed es) (listed_not_refused es) h

pub accepted_listed : (b : Book) (c : Command) (es : List Entry) → answer b c ≡ listed es → accepted b c ≡ listed es
accepted_listed b c es h = (none_listed b c es h).1

-- A REMOVAL THAT FITS
pub record RemoveFits (b : Book) (n : ℕ) : Type 0 where
  pub positive : n ≢ 0
  pub held : holds n b.lines ≡ true

-- every accepted removal fits
pub remove_accepted : (b : Book) (n : ℕ) → answer b (Remove n) ≡ done → RemoveFits b n
unfolding answer
remove_accepted b n h =
    let m = (none_met (tests b (Remove n)) done done done_not_refused h).0 in
    record { positive = eqb-false n 0 m.0; held = not-false _ m.1.0 }

-- A LIST OF A LEG THAT IS GIVEN
pub record ListFits (b : Book) (l : Leg) (es : List Entry) : Type 0 where
  pub on_grid : LegOnGrid l
  pub some_site : length (sites_of b) ≢ 0
  pub is : es ≡ split_of l (sites_of b)

-- every list that 4C is answered with is given so
pub list_accepted : (b : Book) (l : Leg) (es : List Entry) → answer b (ListOf l) ≡ listed es → ListFits b l es
list_accepted b l es h =
    let (m, q) = none_listed b (ListOf l) es h in
    record { on_grid = on_leg l m.0; some_site = eqb-false _ 0 m.1.0; is = sym (listed_one _ es q) }

-- A STANDING LIST THAT IS GIVEN
pub record PrintFits (b : Book) (es : List Entry) : Type 0 where
  pub line : Leg
  pub stands : b.leg ≡ Some line
  pub some_site : length (sites_of b) ≢ 0
  pub is : es ≡ split_of line (sites_of b)

-- a leg stands
leg_stands : (o : Option Leg) → legless o ≡ false → (l : Leg) × (o ≡ Some l)
leg_stands None h = absurd (true≢false h)
leg_stands (Some l) h = (l, refl)

-- every list that 50 is answered with is given so
pub print_accepted : (b : Book) (es : List Entry) → answer b Print ≡ listed es → PrintFits b es
print_accepted b es h =
    let (m, q) = none_listed b Print es h in
    let (l, e) = leg_stands b.leg m.0 in
    record {
      line = l;
      stands = e;
      some_site = eqb-false _ 0 m.1.0;
      is = sym (listed_one _ es q) ∙ ap (λ (o : Option Leg). list_of o (sites_of b)) e;
    }

-- A LEG OF A TOUR THAT IS ANSWERED
pub record CornerFits (b : Book) (p : Position) (es : List Entry) : Type 0 where
  pub tour : Tour
  pub runs : b.tour ≡ Some tour
  pub on_grid : OnGrid p
  pub some_site : length (sites_of b) ≢ 0
  pub is : es ≡ left_out tour.last (split_of (leg_to tour p) (sites_of b))

-- a tour is under way
tour_runs : (o : Option Tour) → tourless o ≡ false → (k : Tour) × (o ≡ Some k)
tour_runs None h = absurd (true≢false h)
tour_runs (Some k) h = (k, refl)

-- every list that 43 is answered with is given so
pub corner_accepted : (b : Book) (p : Position) (es : List Entry) → answer b (Corner p) ≡ listed es → CornerFits b p es
corner_accepted b p es h =
    let (m, q) = none_listed b (Corner p) es h in
    let (k, e) = tour_runs b.tour m.0 in
    record {
      tour = k;
      runs = e;
      on_grid = grid_on p m.1.0;
      some_site = eqb-false _ 0 m.1.1.0;
      is = sym (listed_one _ es q) ∙ ap (λ (o : Option Tour). left_out (remembered o) (list_of (tour_leg o p) (sites_of b))) e;
    }

-- 43 is never answered by a bare acceptance
pub corner_not_done : (b : Book) (p : Position) → answer b (Corner p) ≢ done
unfolding answer
corner_not_done b p h = done_not_listed _ (sym (none_met (tests b (Corner p)) (accepted b (Corner p)) done done_not_refused h).1)
