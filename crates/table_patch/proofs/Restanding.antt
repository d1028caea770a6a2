-- The standing list, made anew: the table is sound, and its book is as it was.
-- Assumes nothing.
use mathlib.Core.Path.{◌≡◌, sym, ap, subst, ◌∙◌}
use mathlib.Core.List.{List, []}
use Rattle.std.specs.Prelude.{Option, None, Some}
use Prim.Native.Nat.{ℕ, ◌+◌}
use native.Mathlib.Omega.{arith}
use lib.ListN.{length}
use Rattle.limits.specs.Limits.{table_bytes}
use Rattle.words.specs.Words.{put_word, Only}
use Rattle.words.proofs.Frame.{only_put_word, word_put_word}
use Rattle.grid.specs.declared.Leg.{Leg}
use Rattle.grid.specs.Position.{LegOnGrid}
use Rattle.split.specs.SplitList.{Entry}
use Rattle.list_row.specs.Vertices.{entries_in}
use Rattle.book.specs.Book.{sites_of, list_of, standing_list}
use Rattle.book.specs.Proper.{LegOk}
use Rattle.table_header.specs.Layout.{length_start}
use Rattle.table_header.specs.Header.{leg_in, length_in}
use Rattle.table_standing.specs.Layout.{list_start}
use Rattle.table_standing.specs.Standing.{words_from, standing_in, numbers_of, ListStored}
use Rattle.table_rules.specs.Table.{book_of, Whole}
use Rattle.table_rules.specs.Listing.{ListsTable}
use Rattle.table_rules.specs.Fault.{StandingFault}
use Rattle.table_rules.proofs.Same.{leg_same}
use Rattle.table_rules.proofs.Fault.{fault_lines, fault_tour, fault_whole}
use Rattle.demands.specs.Step.{Holds}

module _ (b b' : List ℕ) (w : Whole b) (es : List Entry) (st : ListStored es b b') where
  -- no other bytes than those of the list
  outside : StandingFault b b'
  outside =
      record {
        len = st.len;
        low = λ i h. st.low i (omega arith);
        unset = λ n i l h. st.low i h;
        between = st.between;
        high = st.high;
      }

  leg_stays : leg_in b' ≡ leg_in b
  leg_stays = leg_same b b' (λ i l h. st.low i h)

  book_stays : book_of b' ≡ book_of b
  book_stays = λ i. record { lines = fault_lines b b' w outside i; leg = leg_stays i; tour = fault_tour b b' w outside i }

  -- THE RIGHT LIST STORED makes the table sound
  pub stored_holds : LegOk (leg_in b) → numbers_of es ≡ numbers_of (standing_list (book_of b)) → Holds b' (book_of b)
  stored_holds leg right =
      record {
        sound = record {
          whole = fault_whole b b' w outside;
          standing = record {
            leg = subst LegOk (sym leg_stays) leg;
            list = st.list ∙ right ∙ sym (λ i. numbers_of (standing_list (book_stays i)));
          };
        };
        book = book_stays;
      }

-- without a standing leg the list is empty
cleared : (b b' : List ℕ) → length b ≡ table_bytes → b' ≡ put_word b length_start 0 → ListStored [] b b'
unfolding standing_in words_from numbers_of
cleared b b' len e =
    let o : Only length_start (length_start + 2) b b' = subst (λ (x : List ℕ). Only length_start (length_start + 2) b x) (sym e) (only_put_word b length_start 0) in
    let z : length_in b' ≡ 0 = ap (λ (x : List ℕ). length_in x) e ∙ word_put_word b length_start 0 (omega arith) in
    record {
      len = o.len;
      list = ap (words_from b' list_start) z;
      low = o.low;
      between = λ i h g. o.high i (omega arith);
      high = λ i h. o.high i (omega arith);
    }

pub restood_none : (b b' : List ℕ) (s : Option Leg) → Whole b → LegOk (leg_in b) → s ≡ leg_in b → s ≡ None → b' ≡ put_word b length_start 0 → Holds b' (book_of b)
unfolding numbers_of
restood_none b b' s w leg q u e =
    let n : leg_in b ≡ None = sym q ∙ u in
    stored_holds b b' w [] (cleared b b' w.len e) leg
    (sym (ap (λ (o : Option Leg). numbers_of (list_of o (sites_of (book_of b)))) n))

-- the leg that is searched is on the grid
pub along_leg : (b : List ℕ) (s : Option Leg) (l : Leg) → LegOk (leg_in b) → s ≡ leg_in b → s ≡ Some l → LegOnGrid l
along_leg b s l leg q u = subst LegOk (sym q ∙ u) leg

pub restood_list : (b b' : List ℕ) (s : Option Leg) (l : Leg) (r : List ℕ) (k : ℕ) → Whole b → LegOk (leg_in b) → s ≡ leg_in b → s ≡ Some l
    → ListsTable l b r k → ListStored (entries_in l b r k) b b' → Holds b' (book_of b)
restood_list b b' s l r k w leg q u f st =
    let n : leg_in b ≡ Some l = sym q ∙ u in
    stored_holds b b' w (entries_in l b r k) st leg
    (ap numbers_of f.list ∙ sym (ap (λ (o : Option Leg). numbers_of (list_of o (sites_of (book_of b)))) n))
