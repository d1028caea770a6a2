-- The starred lines of document 01, "Legs to try": command bytes and record bytes, the refusals 6 and 7 and the
-- removals included; and the leg from corner to corner of the grid as C-12 of document 02 has it.
-- Assumes nothing.
use Rattle.std.specs.Prelude.{List, [], ◌∷◌, ◌++◌, map, ℕ, ◌+◌, Option, None, Some}
use Rattle.grid.specs.declared.Position.{Position}
use Rattle.grid.specs.declared.Leg.{Leg}
use Rattle.grid.specs.declared.Fraction.{Fraction}
use Rattle.grid.specs.Side.{way_back}
use Rattle.records.specs.Bytes.{bytes2, bytes4}
use Rattle.records.specs.Decode.{Listed}
use Rattle.book.specs.declared.Command.{Command}
use Rattle.book.specs.declared.Command.TheVariants.{Remove, List as ListOf, Stand, Print}
use Rattle.book.specs.Command.{add_at, move_to}
use Rattle.book.specs.Book.{empty_book}
use Rattle.book.specs.Encode.{command_bytes}
use Rattle.book.specs.Run.{records, run}
use Rattle.demands.specs.Demands.{list_in, number_at}
use Rattle.split.specs.Legs.{at, at_south, at_west, at_south_west, leg, ten, diagonal, longest}

-- commands, and the records that they get
pub record Line : Type 0 where
  pub commands : List Command
  pub answers : List ℕ

-- a line of the table
abbrev pub line : List Command → List ℕ → Line
line cs rs = record { commands = cs; answers = rs }

-- the bytes of the commands
abbrev pub bytes_of : List Command → List ℕ
bytes_of [] = []
bytes_of (c ∷ cs) = command_bytes c ++ bytes_of cs

-- an entry of a record: site k from n/d
abbrev pub since_bytes : ℕ → ℕ → ℕ → List ℕ
since_bytes k n d = bytes2 k ++ bytes4 n ++ bytes4 d

-- a list record of one entry
abbrev pub one_entry : List ℕ → List ℕ
one_entry e = 0x3D ∷ bytes2 1 ++ e

-- and of two
abbrev pub two_entries : List ℕ → List ℕ → List ℕ
two_entries e f = 0x3D ∷ bytes2 2 ++ e ++ f

-- two additions and the list of a leg
abbrev pub pair : ℕ → Position → ℕ → Position → Leg → List Command
pair k p j q l = add_at k p ∷ add_at j q ∷ ListOf l ∷ []

-- the list of the longest leg
abbrev pub longest_record : List ℕ
longest_record = two_entries (since_bytes 1 0 1) (since_bytes 2 1151999999 2303952000)

-- the same, read back
abbrev pub longest_list : List Listed
longest_list =
    record { number = 1; start = record { num = 0; den = 1 } }
    ∷ record { number = 2; start = record { num = 1151999999; den = 2303952000 } }
    ∷ []

-- "Site 1 (2,3), 2 (7,1): 1 from 0/1, 2 from 37/100. Add 3 (9,-4): no change. Remove 2 and 3: 1 from 0/1."
-- "2 (3,4), 5 (3,-4)": 5 from 0/1. Document 02, C-11: "that leg now lists 5".
-- "1 (0,0), 2 (10,0), 3 (5,5): 1 from 0/1, 2 from 1/2; 3 touches once."
-- "1 (-2,0), 2 (2,0): 2 from 0/1."
-- "1 (8,0), 2 (12,0): 1 from 0/1; they tie at 1."
-- "Leg (4,4) to (4,4), 7 (4,5), 3 (5,4): 3 from 0/1."
-- "Leg (-8000,-8000) to (8000,8000), site 1 at its start and 2 at its end: 1 from 0/1, 2 from 1/2."
-- "No site: 6. Print without standing leg and site: 7."
abbrev pub starred_lines : List Line
starred_lines =
    line
    (pair 1 (at 2 3) 2 (at 7 1) ten ++ (add_at 3 (at_south 9 4) ∷ ListOf ten ∷ Remove 2 ∷ Remove 3 ∷ ListOf ten ∷ []))
    (0x2B ∷ 0x2B ∷ two_entries (since_bytes 1 0 1) (since_bytes 2 37 100)
    ++ (0x2B ∷ two_entries (since_bytes 1 0 1) (since_bytes 2 37 100))
    ++ (0x2B ∷ 0x2B ∷ one_entry (since_bytes 1 0 1)))
    ∷ line (pair 2 (at 3 4) 5 (at_south 3 4) ten) (0x2B ∷ 0x2B ∷ one_entry (since_bytes 5 0 1))
    ∷ line (add_at 1 (at 0 0) ∷ pair 2 (at 10 0) 3 (at 5 5) ten) (0x2B ∷ 0x2B ∷ 0x2B ∷ two_entries (since_bytes 1 0 1) (since_bytes 2 1 2))
    ∷ line (pair 1 (at_west 2 0) 2 (at 2 0) ten) (0x2B ∷ 0x2B ∷ one_entry (since_bytes 2 0 1))
    ∷ line (pair 1 (at 8 0) 2 (at 12 0) ten) (0x2B ∷ 0x2B ∷ one_entry (since_bytes 1 0 1))
    ∷ line (pair 7 (at 4 5) 3 (at 5 4) (leg (at 4 4) (at 4 4))) (0x2B ∷ 0x2B ∷ one_entry (since_bytes 3 0 1))
    ∷ line (pair 1 (at_south_west 8000 8000) 2 (at 8000 8000) diagonal) (0x2B ∷ 0x2B ∷ two_entries (since_bytes 1 0 1) (since_bytes 2 1 2))
    ∷ line (ListOf ten ∷ Print ∷ []) (0x21 ∷ 6 ∷ 0x21 ∷ 7 ∷ [])
    ∷ []

-- from corner to corner of the grid, site 1 one step off S and 2 at E: a start with a denominator that 31 bits do not
-- hold, 48,000 below the bound
abbrev pub longest_lines : List Line
longest_lines =
    line (pair 1 (at_south_west 11999 12000) 2 (at 12000 12000) longest) (0x2B ∷ 0x2B ∷ longest_record)
    ∷ []

-- the records as the documents have them
abbrev pub written : List Line → List (List ℕ)
written [] = []
written (x ∷ xs) = x.answers ∷ written xs

-- the records that the book gives to the bytes of the commands, from laying out on
abbrev pub given : List Line → List (List ℕ)
given [] = []
given (x ∷ xs) = records (run (bytes_of x.commands) 1000 empty_book).turns ∷ given xs

-- the standing leg: printed with sites 1 and 2, when 2 is removed, and when 1 is removed too; with the two sites
-- changed over by moves; and with sites 2 and 5 that tie along the whole leg (C-11): 2 alone, with 5 on the right, with
-- the leg turned round, and when 2 is removed
abbrev pub standing_lines : List Line
standing_lines =
    line
    (Stand ten ∷ add_at 1 (at 2 3) ∷ add_at 2 (at 7 1) ∷ Print ∷ Remove 2 ∷ Print ∷ Remove 1 ∷ Print ∷ [])
    (0x2B ∷ 0x2B ∷ 0x2B ∷ two_entries (since_bytes 1 0 1) (since_bytes 2 37 100) ++ (0x2B ∷ one_entry (since_bytes 1 0 1)) ++ (0x2B ∷ 0x21 ∷ 6 ∷ []))
    ∷ line
    (Stand ten ∷ add_at 1 (at 2 3) ∷ add_at 2 (at 7 1) ∷ move_to 1 (at 7 1) ∷ move_to 2 (at 2 3) ∷ Print ∷ [])
    (0x2B ∷ 0x2B ∷ 0x2B ∷ 0x2B ∷ 0x2B ∷ two_entries (since_bytes 2 0 1) (since_bytes 1 37 100))
    ∷ line
    (Stand ten ∷ add_at 2 (at 3 4) ∷ Print ∷ add_at 5 (at_south 3 4) ∷ Print
    ∷ Stand (way_back ten) ∷ Print ∷ Remove 2 ∷ Print ∷ [])
    (0x2B ∷ 0x2B ∷ one_entry (since_bytes 2 0 1) ++ (0x2B ∷ one_entry (since_bytes 5 0 1))
    ++ (0x2B ∷ one_entry (since_bytes 2 0 1)) ++ (0x2B ∷ one_entry (since_bytes 5 0 1)))
    ∷ []

-- the fractions 0, 36/100, 37/100, 99/100 and 1
abbrev pub fractions : List Fraction
fractions =
    record { num = 0; den = 1 } ∷ record { num = 36; den = 100 } ∷ record { num = 37; den = 100 }
    ∷ record { num = 99; den = 100 } ∷ record { num = 1; den = 1 } ∷ []

-- the numbers that a printed record names there: "At t a list names the site of its last entry whose start is not
-- above t"
abbrev pub names_in : List ℕ → List (Option ℕ)
names_in bytes = map (λ (t : Fraction). number_at t (list_in bytes)) fractions

-- what the first of the standing lines prints
abbrev pub printed_lines : List (List ℕ)
printed_lines = two_entries (since_bytes 1 0 1) (since_bytes 2 37 100) ∷ one_entry (since_bytes 1 0 1) ∷ (0x21 ∷ 6 ∷ []) ∷ []

-- what is named then: at a start the site that begins there; where 2 stood, its start included, 1 stands when 2 is
-- gone; and none is named by a refusal
abbrev pub named_lines : List (List (Option ℕ))
named_lines =
    (Some 1 ∷ Some 1 ∷ Some 2 ∷ Some 2 ∷ Some 2 ∷ [])
    ∷ (Some 1 ∷ Some 1 ∷ Some 1 ∷ Some 1 ∷ Some 1 ∷ [])
    ∷ (None ∷ None ∷ None ∷ None ∷ None ∷ [])
    ∷ []
