-- What the book says to the calls, computed by the checker.
-- Assumes nothing.
use mathlib.Core.Path.{◌≡◌, refl}
use mathlib.Core.List.{[], ◌∷◌}
use Rattle.std.specs.Prelude.{None, Some}
use native.Mathlib.Decide.{dec_le, dec_lt}
use native.Mathlib.Omega.{arith}
use Rattle.limits.specs.Limits.{work_bytes}
use Rattle.words.specs.Words.{word_at}
use Rattle.grid.specs.Position.{squared_difference, distance, LegOnGrid}
use Rattle.grid.specs.Coordinate.{from_word, to_word}
use Rattle.grid.specs.Side.{on_the_right?}
use Rattle.grid.specs.Fraction.{gcd_by, gcd_of, lowest}
use Rattle.split.specs.Legs.{ten}
use Rattle.split.specs.SplitList.{rank}
use Rattle.split.specs.SplitOf.{hides?, right_below?, under?, push, insert, build, split_of}
use Rattle.records.specs.ListRecord.{entry_bytes, list_bytes, record_bytes}
use Rattle.book.specs.Book.{empty_book, write_line, strike_line, holds, change}
use Rattle.book.specs.Command.{form_of, parse_at}
use Rattle.book.specs.Answer.{answer}
use Rattle.book.specs.Run.{records, turn, run_from}
use Rattle.demands.specs.Whole.{replies, replies_asking, book_after}
use Rattle.replay.specs.Replayed.{ask, site_one, site_two, stand_ten, end_asks, end_replies, ten_bytes}

-- 64, 0, 66, 67 and 68
pub end_replies_lem : replies empty_book end_asks ≡ end_replies
unfolding replies_asking book_after records turn run_from parse_at form_of word_at from_word to_word answer holds change write_line strike_line split_of build insert push hides? under? right_below? dec_le dec_lt distance squared_difference rank on_the_right? lowest gcd_of gcd_by entry_bytes list_bytes record_bytes
end_replies_lem = refl

-- site 3 has come and gone
pub end_lines : (book_after empty_book end_asks).lines ≡ site_one ∷ site_two ∷ []
unfolding replies_asking book_after records turn run_from parse_at form_of word_at from_word to_word answer holds change write_line strike_line split_of build insert push hides? under? right_below? dec_le dec_lt distance squared_difference rank on_the_right? lowest gcd_of gcd_by entry_bytes list_bytes record_bytes
end_lines = refl

-- "1 from 0/1, 2 from 37/100"
pub ten_list : record_bytes (split_of ten (site_one ∷ site_two ∷ [])) ≡ ten_bytes
unfolding split_of build insert push hides? under? right_below? dec_le dec_lt distance squared_difference rank on_the_right? lowest gcd_of gcd_by entry_bytes list_bytes record_bytes
ten_list = refl

pub ten_on : LegOnGrid ten
ten_on = record { s = record { east = omega arith; north = omega arith }; e = record { east = omega arith; north = omega arith } }

-- a 53 sets the leg, and adds no site
pub stood_book : book_after empty_book (ask work_bytes stand_ten 2 ∷ []) ≡ record { lines = []; leg = Some ten; tour = None }
unfolding replies_asking book_after records turn run_from parse_at form_of word_at from_word to_word answer holds change
stood_book = refl

-- its list is empty
pub no_entry_lem : split_of ten [] ≡ []
unfolding split_of build
no_entry_lem = refl
