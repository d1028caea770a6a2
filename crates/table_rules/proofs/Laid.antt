-- The table just laid out is sound, and holds the empty book.
-- Assumes nothing.
use mathlib.Core.Path.{◌≡◌, refl, sym, ap, subst, ◌∙◌}
use mathlib.Core.List.Memᴰ
use mathlib.Core.List.{List, [], Memᴰ}
use Rattle.std.specs.Prelude.{Option, None}
use Prim.Native.Nat.{◌+◌}
use native.Mathlib.Omega.{arith}
use borrow.Author.Tests.{eq-eqb}
use Rattle.words.specs.Words.{word_at}
use Rattle.grid.specs.declared.Site.{Site}
use Rattle.grid.specs.declared.Leg.{Leg}
use Rattle.book.specs.declared.Tour.{Tour}
use Rattle.book.specs.Book.{empty_book, sites_of, list_of}
use Rattle.book.specs.Proper.{LegOk, TourOk, Rising}
use Rattle.table_header.specs.Layout.{flag_start, length_start, tour_start}
use Rattle.table_header.specs.Header.{count_in, leg_in, tour_in, ZeroFrom, HeaderOk}
use Rattle.table_sites.specs.Lines.{lines_from, lines_in, SpareZero}
use Rattle.table_sites.specs.Rules.{SitesOk}
use Rattle.table_standing.specs.Layout.{list_start}
use Rattle.table_standing.specs.Standing.{words_from, standing_in, numbers_of}
use Rattle.tree_node.specs.Tally.{total}
use Rattle.table_empty.specs.EmptyTable.{empty_table}
use Rattle.table_empty.proofs.EmptyTree.{empty_length, empty_low, empty_behind, empty_word, empty_layout, empty_rooted, empty_leaves}
use Rattle.tree_check.specs.Leaves.{leaf_entries}
use Rattle.table_rules.specs.Table.{book_of, Sound}

no_count : count_in empty_table ≡ 0
no_count = empty_word 0 (omega arith)

no_lines : lines_in empty_table ≡ []
unfolding lines_in lines_from
no_lines = ap (lines_from empty_table 0) no_count

no_leg : leg_in empty_table ≡ None
unfolding leg_in
no_leg = rw (eq-eqb (word_at empty_table flag_start) 0 (empty_word flag_start (omega arith))) refl

-- the words behind the layout's number are 0
no_flag : word_at empty_table tour_start ≡ 0
unfolding word_at
no_flag = omega (arith, empty_behind tour_start (omega arith) (omega arith), empty_behind (tour_start + 1) (omega arith) (omega arith))

no_tour : tour_in empty_table ≡ None
unfolding tour_in
no_tour = rw (eq-eqb (word_at empty_table tour_start) 0 no_flag) refl

-- THE EMPTY BOOK
pub laid_book : book_of empty_table ≡ empty_book
laid_book = λ i. record { lines = no_lines i; leg = no_leg i; tour = no_tour i }

laid_sites : SitesOk empty_table
unfolding SpareZero
laid_sites =
    record {
      few = omega (arith, no_count);
      numbers = λ p m. absurd (Memᴰ.not-nil (subst (λ (s : List Site). Memᴰ p s) no_lines m));
      rising = subst (λ (s : List Site). Rising s) (sym no_lines) tt;
      on_grid = λ p m. absurd (Memᴰ.not-nil (subst (λ (s : List Site). Memᴰ p s) no_lines m));
      spare = λ k h. absurd (omega (arith, no_count));
    }

laid_header : HeaderOk empty_table
unfolding ZeroFrom
laid_header =
    record {
      layout = empty_layout;
      leg = record { flag = omega (arith, empty_word flag_start (omega arith)); unset = λ z i l u. empty_low i (omega arith) };
      tour = record { flag = omega (arith, no_flag); unset = λ z i l u. empty_behind i (omega arith) (omega arith) };
      kept = λ i l u. empty_behind i (omega arith) (omega arith);
    }

no_list : standing_in empty_table ≡ []
unfolding standing_in words_from
no_list = ap (words_from empty_table list_start) (empty_word length_start (omega arith))

-- THE TABLE JUST LAID OUT IS SOUND
pub laid_sound : Sound empty_table
unfolding leaf_entries numbers_of total
laid_sound =
    record {
      whole = record {
        len = empty_length;
        sites = laid_sites;
        header = laid_header;
        tour = subst (λ (o : Option Tour). TourOk o (sites_of (book_of empty_table))) (sym no_tour) tt;
        tree = record {
          rooted = empty_rooted;
          leaf = λ w. ap (total w) empty_leaves ∙ sym (ap (λ (s : List Site). total w (leaf_entries s)) no_lines);
        };
      };
      standing = record {
        leg = subst (λ (o : Option Leg). LegOk o) (sym no_leg) tt;
        list = no_list ∙ sym (ap numbers_of (λ i. list_of (no_leg i) (no_lines i)));
      };
    }
