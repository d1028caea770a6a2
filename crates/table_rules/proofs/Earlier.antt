-- The tables of the release before C-13 are just the sound ones without a tour, and hold the same book.
-- Assumes nothing.
use mathlib.Core.Path.{◌≡◌, refl, sym, subst}
use mathlib.Core.Bool.{Bool, true, false, cond}
use mathlib.Core.List.{List}
use Rattle.std.specs.Prelude.{Option, None, Some}
use Prim.Native.Nat.{ℕ, ◌+◌}
use native.Mathlib.Omega.{arith}
use lib.Dec.{eqb}
use borrow.Author.Tests.{eq-eqb, eqb-true}
use Rattle.words.specs.Words.{word_at}
use Rattle.book.specs.declared.Tour.{Tour}
use Rattle.book.specs.Book.{sites_of}
use Rattle.book.specs.Proper.{TourOk}
use Rattle.table_header.specs.Layout.{tour_start, corner_start, last_start, tour_end, kept_end}
use Rattle.table_header.specs.Header.{position_words, ZeroFrom, tour_at, tour_in}
use Rattle.table_header.proofs.Zeros.{zero_word, zero_both}
use Rattle.table_rules.specs.Table.{book_of, Sound}
use Rattle.table_rules.specs.Earlier.{SoundBefore, book_before}

module _ (b : List ℕ) (s : SoundBefore b) where
  no_flag : word_at b tour_start ≡ 0
  unfolding word_at ZeroFrom
  no_flag =
      let k = s.header.kept in
      omega (arith, k tour_start (omega arith) (omega arith), k (tour_start + 1) (omega arith) (omega arith))

  no_tour : tour_in b ≡ None
  unfolding tour_in
  no_tour = rw (eq-eqb (word_at b tour_start) 0 no_flag) refl

  -- AN EARLIER TABLE IS SOUND, and holds the book that it held
  pub earlier_sound : Sound b × (book_of b ≡ book_before b)
  unfolding ZeroFrom
  earlier_sound = (
    record {
      whole = record {
        len = s.len;
        sites = s.sites;
        header = record {
          layout = s.header.layout;
          leg = s.header.leg;
          tour = record { flag = omega (arith, no_flag); unset = λ z i l u. s.header.kept i (omega arith) (omega arith) };
          kept = λ i l u. s.header.kept i (omega arith) u;
        };
        tour = subst (λ (o : Option Tour). TourOk o (sites_of (book_of b))) (sym no_tour) tt;
        tree = s.tree;
      };
      standing = s.standing;
    },
    λ i. record { lines = sites_of (book_of b); leg = (book_of b).leg; tour = no_tour i },
  )

-- A SOUND TABLE WITHOUT A TOUR was sound before
pub idle_earlier : (b : List ℕ) → Sound b → tour_in b ≡ None → SoundBefore b
unfolding tour_in
idle_earlier b s e =
    record {
      len = s.whole.len;
      sites = s.whole.sites;
      header = record { layout = s.whole.header.layout; leg = s.whole.header.leg; kept = zeros (eqb (word_at b tour_start) 0) refl (tour_at (position_words b corner_start) (word_at b last_start)) e };
      tree = s.whole.tree;
      standing = s.standing;
    }
  where
    zeros : (c : Bool) → eqb (word_at b tour_start) 0 ≡ c → (k : Tour) → cond c None (Some k) ≡ None → ZeroFrom b tour_start kept_end
    zeros true f k g =
        let z = eqb-true (word_at b tour_start) 0 f in
        zero_both b tour_start corner_start kept_end (zero_word b tour_start z)
        (zero_both b corner_start tour_end kept_end (s.whole.header.tour.unset z) s.whole.header.kept)
    zeros false f k g = absurd (let x : ◌≡◌ {A = ℕ} 0 1 = cc in omega arith)
