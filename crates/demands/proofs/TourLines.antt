-- Tours to try, one statement over the table, computed by the checker; and the promise of tours, cited for calls.
-- Assumes nothing.
use mathlib.Core.Path.{◌≡◌, refl, sym, ap, ◌∙◌}
use Rattle.std.specs.Prelude.{Some}
use mathlib.Core.List.{List, [], ◌∷◌, ◌++◌, map}
use Prim.Native.Nat.{ℕ}
use native.Mathlib.Decide.{dec_le, dec_lt}
use Rattle.words.specs.Words.{word_at}
use Rattle.grid.specs.Position.{squared_difference, distance}
use Rattle.grid.specs.Coordinate.{from_word, to_word}
use Rattle.grid.specs.declared.Position.{Position}
use Rattle.grid.specs.declared.Site.{Site}
use Rattle.grid.specs.Side.{on_the_right?}
use Rattle.grid.specs.Fraction.{gcd_by, gcd_of, lowest}
use Rattle.split.specs.SplitList.{rank, name_at}
use Rattle.split.specs.SplitOf.{hides?, right_below?, under?, push, insert, build, split_of}
use Rattle.split.specs.Legs.{at}
use Rattle.records.specs.ListRecord.{entry_bytes, list_bytes, record_bytes}
use Rattle.records.specs.Decode.{Listed, listed_of, read2, read4, read_list, read_record}
use Rattle.book.specs.Book.{empty_book, sites_of, write_line, strike_line, move_line, holds, change}
use Rattle.book.specs.Command.{form_of, parse_at}
use Rattle.book.specs.Answer.{answer}
use Rattle.book.specs.Run.{records, turn, run_from}
use Rattle.book.specs.Tour.{left_out}
use Rattle.book.specs.Listener.{Exchange, hear_records, commands_from, Trip, tour_heard, book_heard, last_heard, said_at, leg_of, LegTold, heard_leg}
use Rattle.book.proofs.Answers.{list_accepted}
use Rattle.demands.specs.Whole.{Call, Ran, Said, said, Ask, asked, replies_asking, replies, heard_in, heard_of_run}
use Rattle.demands.specs.Starred.{given, written}
use Rattle.demands.specs.Demands.{ToursTold}
use Rattle.demands.specs.TourLines.{tour_lines, tour_asks, tour_says, exchanges, since, ten_listed, before_first, before_second, before_back, before_other, tour_hearing, both_sites, three_sites, LegSaid, LegsSaid}
use Rattle.demands.proofs.Demands.{demands}

-- THE TOURS, in one call
pub tour_lines_lem : given tour_lines ≡ written tour_lines
unfolding records turn run_from parse_at form_of word_at from_word to_word answer holds change write_line strike_line move_line split_of build insert push hides? under? right_below? dec_le dec_lt distance squared_difference rank on_the_right? lowest gcd_of gcd_by entry_bytes list_bytes record_bytes
tour_lines_lem = refl

-- OVER FOUR CALLS: what the book says to them
pub tour_says_lem : replies empty_book tour_asks ≡ tour_says
unfolding replies_asking records turn run_from parse_at form_of word_at from_word to_word answer holds change write_line strike_line move_line split_of build insert push hides? under? right_below? dec_le dec_lt distance squared_difference rank on_the_right? lowest gcd_of gcd_by entry_bytes list_bytes record_bytes
tour_says_lem = refl

-- and what is heard of them
pub tour_hearing_lem : exchanges tour_asks tour_says ≡ tour_hearing
unfolding hear_records commands_from parse_at form_of word_at from_word to_word read_record read_list read2 read4
tour_hearing_lem = refl

-- what is heard of calls, by what they were asked and what they said
heard_by : (cs : List Call) (more : List Ask) (ss : List Said) → map asked cs ≡ more → map said cs ≡ ss → heard_of_run cs ≡ exchanges more ss
unfolding heard_of_run
heard_by [] more ss e f = λ i. exchanges (e i) (f i)
heard_by (c ∷ cs) more ss e f =
    (λ i. heard_in c ++ heard_by cs (map asked cs) (map said cs) refl refl i) ∙ (λ i. exchanges (e i) (f i))

-- the promise of a leg, written out, where the tour and the sites before it are known
said_out : (past : List Exchange) (p : Position) (es : List Listed) (k : Trip) (s : List Site) → tour_heard past ≡ Some k → sites_of (book_heard past) ≡ s
    → LegTold (book_heard past) (tour_heard past) p es → LegSaid (leg_of k p) s (last_heard k) es
said_out past p es k s runs sites h =
    let same : h.tour ≡ k = let q = h.heard in cc in
    let list : h.whole ≡ split_of (leg_of k p) s =
    (list_accepted (book_heard past) (leg_of h.tour p) h.whole h.by4_c).is ∙ (λ i. split_of (leg_of (same i) p) (sites i)) in (
      (λ t f.
          let d = h.everywhere t f in (
            d.site,
            (
              ap (name_at t) (sym list) ∙ d.names,
              ap (λ (x : Trip). said_at t (last_heard x) es) (sym same) ∙ d.told,
            ),
          )),
      h.record_is ∙ (λ i. map listed_of (left_out (last_heard (same i)) (list i))),
    )

module _ (cs : List Call) (told : ToursTold cs) (heard : heard_of_run cs ≡ tour_hearing) where
  -- each leg, wherever it stands among what was heard
  leg_said : (past later : List Exchange) (p : Position) (es : List Listed) → tour_hearing ≡ past ++ (heard_leg p es ∷ later)
      → (k : Trip) (s : List Site) → tour_heard past ≡ Some k → sites_of (book_heard past) ≡ s → LegSaid (leg_of k p) s (last_heard k) es
  leg_said past later p es e k s runs sites = said_out past p es k s runs sites (told past later p es (heard ∙ e))

  legs_said : LegsSaid
  unfolding change write_line
  legs_said =
      record {
        first = leg_said before_first _ (at 10 0) ten_listed refl (record { corner = at 0 0; entries = [] }) both_sites refl refl;
        second = leg_said before_second _ (at 9 0) [] refl (record { corner = at 10 0; entries = ten_listed }) both_sites refl refl;
        back = leg_said before_back _ (at 0 0) (since 1 53 90 ∷ []) refl (record { corner = at 9 0; entries = ten_listed ++ [] }) both_sites refl refl;
        other = leg_said before_other [] (at 10 0) ten_listed refl (record { corner = at 0 0; entries = [] }) three_sites refl refl;
      }

-- THE PROMISE, cited for whatever calls were asked so
pub tour_told : (cs : List Call) (t' : List ℕ) → Ran cs t' → map asked cs ≡ tour_asks → (map said cs ≡ tour_says) × LegsSaid
tour_told cs t' r e =
    let d = demands in
    let said_so : map said cs ≡ tour_says = (d.three cs t' r).answers ∙ ap (replies empty_book) e ∙ tour_says_lem in
    (said_so, legs_said cs (d.tours cs t' r) (heard_by cs tour_asks tour_says e said_so ∙ tour_hearing_lem))
