-- The starred lines of document 01, one statement over the table, computed by the checker.
-- Assumes nothing.
use mathlib.Core.Path.{◌≡◌, refl}
use mathlib.Core.List.{map}
use native.Mathlib.Decide.{dec_le, dec_lt}
use Rattle.words.specs.Words.{word_at}
use Rattle.grid.specs.Position.{squared_difference, distance}
use Rattle.grid.specs.Coordinate.{from_word, to_word}
use Rattle.grid.specs.Side.{on_the_right?}
use Rattle.grid.specs.Fraction.{gcd_by, gcd_of, lowest}
use Rattle.split.specs.SplitList.{rank}
use Rattle.split.specs.SplitOf.{hides?, right_below?, under?, push, insert, build, split_of}
use Rattle.records.specs.ListRecord.{entry_bytes, list_bytes, record_bytes}
use Rattle.book.specs.Book.{write_line, strike_line, move_line, holds, change}
use Rattle.book.specs.Command.{form_of, parse_at}
use Rattle.book.specs.Answer.{answer}
use Rattle.book.specs.Run.{records, turn, run_from}
use Rattle.records.specs.Decode.{read2, read4, read_list, read_record}
use Rattle.demands.specs.Demands.{list_in, number_from}
use Rattle.demands.specs.Starred.{starred_lines, standing_lines, longest_lines, longest_record, longest_list, written, given, printed_lines, named_lines, names_in}

-- THE STARRED LINES
pub starred : given starred_lines ≡ written starred_lines
unfolding records turn run_from parse_at form_of word_at from_word to_word answer holds change write_line strike_line move_line split_of build insert push hides? under? right_below? dec_le dec_lt distance squared_difference rank on_the_right? lowest gcd_of gcd_by entry_bytes list_bytes record_bytes
starred = refl

-- THE STANDING LINES
pub standing : given standing_lines ≡ written standing_lines
unfolding records turn run_from parse_at form_of word_at from_word to_word answer holds change write_line strike_line move_line split_of build insert push hides? under? right_below? dec_le dec_lt distance squared_difference rank on_the_right? lowest gcd_of gcd_by entry_bytes list_bytes record_bytes
standing = refl

-- THE LONGEST LEG: its record, and the list that is read from it
pub longest : (given longest_lines ≡ written longest_lines) × (list_in longest_record ≡ longest_list)
unfolding records turn run_from parse_at form_of word_at from_word to_word answer holds change write_line strike_line move_line split_of build insert push hides? under? right_below? dec_le dec_lt distance squared_difference rank on_the_right? lowest gcd_of gcd_by entry_bytes list_bytes record_bytes read_record read_list read2 read4
longest = (refl, refl)

-- WHAT A PRINTED LIST NAMES, at its starts and ends
pub named : map names_in printed_lines ≡ named_lines
unfolding read_record read_list read2 read4 number_from dec_le
named = refl
