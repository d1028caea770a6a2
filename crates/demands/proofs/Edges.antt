-- What is taken on the grid's sides and corners, and refused one step beyond: computed by the checker.
-- Assumes nothing.
use mathlib.Core.Path.{◌≡◌, refl}
use mathlib.Core.List.{map}
use native.Mathlib.Decide.{dec_le, dec_lt}
use Rattle.words.specs.Words.{word_at}
use Rattle.grid.specs.Position.{squared_difference, distance}
use Rattle.grid.specs.Coordinate.{from_word}
use Rattle.grid.specs.Side.{on_the_right?}
use Rattle.grid.specs.Fraction.{gcd_by, gcd_of, lowest}
use Rattle.split.specs.SplitList.{rank}
use Rattle.split.specs.SplitOf.{hides?, right_below?, under?, push, insert, build, split_of}
use Rattle.records.specs.ListRecord.{entry_bytes, list_bytes, record_bytes}
use Rattle.book.specs.Book.{write_line, strike_line, move_line, holds, change}
use Rattle.book.specs.Command.{form_of, parse_at}
use Rattle.book.specs.Answer.{answer}
use Rattle.book.specs.Run.{records, turn, run_from}
use Rattle.demands.specs.Edges.{sides, corners, answers_at, taken, refused2, four}

-- AT 12,000 every command that has a position is taken
pub edge_taken : (map answers_at (sides 12000) ≡ four taken) × (map answers_at (corners 12000) ≡ four taken)
unfolding records turn run_from parse_at form_of word_at from_word answer holds change write_line strike_line move_line split_of build insert push hides? under? right_below? dec_le dec_lt distance squared_difference rank on_the_right? lowest gcd_of gcd_by entry_bytes list_bytes record_bytes
edge_taken = (refl, refl)

-- AT 12,001 every one gets 2
pub beyond_refused : map answers_at (sides 12001) ≡ four refused2
unfolding records turn run_from parse_at form_of word_at from_word answer holds change write_line strike_line move_line
beyond_refused = refl
