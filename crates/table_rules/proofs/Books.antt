-- The book of a sound table is proper, and so are the lines of one whose first half is kept.
-- Assumes nothing.
use mathlib.Core.Path.{◌≡◌, ap}
use mathlib.Core.List.{List}
use Rattle.std.specs.Prelude.{Option, None, Some}
use Prim.Native.Nat.{ℕ, ◌≤◌}
use native.Mathlib.Omega.{arith}
use lib.ListN.{length}
use Rattle.limits.specs.Limits.{table_bytes, max_sites}
use Rattle.grid.specs.declared.Leg.{Leg}
use Rattle.grid.specs.declared.Site.{Site}
use Rattle.split.specs.SplitList.{Numbered}
use Rattle.split.specs.SplitOf.{split_of}
use Rattle.split.proofs.Exists.{split_is}
use Rattle.split.proofs.Once.{few}
use Rattle.book.specs.Book.{Book, list_of}
use Rattle.book.specs.Proper.{Proper}
use Rattle.book.proofs.Lines.{rising_one}
use Rattle.table_header.specs.Header.{leg_in, length_in}
use Rattle.table_sites.specs.Lines.{lines_in}
use Rattle.table_sites.proofs.Reading.{lines_length}
use Rattle.table_standing.specs.Standing.{numbers_of}
use Rattle.table_standing.proofs.Numbers.{numbers_length, standing_length}
use Rattle.table_rules.specs.Table.{book_of, Whole, StandingOk, Sound}

pub sound_len : (b : List ℕ) → Sound b → length b ≡ table_bytes
sound_len b s = s.whole.len

-- no number is held twice
pub whole_numbered : (b : List ℕ) → Whole b → Numbered (lines_in b)
whole_numbered b w = record { small = λ p m. (w.sites.numbers p m).most; one = rising_one (lines_in b) w.sites.rising }

-- no more entries than sites
list_few : (o : Option Leg) (s : List Site) → Numbered s → length (numbers_of (list_of o s)) ≤ length s
unfolding numbers_of
list_few None s num = omega arith
list_few (Some l) s num = omega (arith, numbers_length (split_of l s), few l s num (split_of l s) (split_is l s num))

pub standing_few : (b : List ℕ) → Whole b → StandingOk b → length_in b ≤ length (lines_in b)
standing_few b w s = omega (arith, standing_length b, ap length s.list, list_few (leg_in b) (lines_in b) (whole_numbered b w))

pub sound_few : (b : List ℕ) → Sound b → length_in b ≤ max_sites
sound_few b s = omega (arith, standing_few b s.whole s.standing, lines_length b, s.whole.sites.few)

-- the lines of a table as a book, with no standing leg and no tour
abbrev pub lines_alone : List ℕ → Book
lines_alone b = record { lines = lines_in b; leg = None; tour = None }

-- WHERE THE FIRST HALF IS KEPT the lines are proper, whatever the standing leg is
pub whole_proper : (b : List ℕ) → Whole b → Proper (lines_alone b)
whole_proper b w =
    record {
      rising = w.sites.rising;
      numbers = w.sites.numbers;
      on_grid = w.sites.on_grid;
      few = omega (arith, lines_length b, w.sites.few);
      leg_ok = tt;
      tour_ok = tt;
    }

-- A SOUND TABLE HOLDS A PROPER BOOK
pub sound_proper : (b : List ℕ) → Sound b → Proper (book_of b)
sound_proper b s =
    record {
      rising = s.whole.sites.rising;
      numbers = s.whole.sites.numbers;
      on_grid = s.whole.sites.on_grid;
      few = omega (arith, lines_length b, s.whole.sites.few);
      leg_ok = s.standing.leg;
      tour_ok = s.whole.tour;
    }
