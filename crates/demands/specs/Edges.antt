-- The grid's four sides, in the bytes of commands. Document 02, C-12: "Coordinates run from -12,000 to 12,000"; "Refusal
-- 2 and its cases move to 12,000 and 12,001".
-- Assumes nothing.
use Rattle.std.specs.Prelude.{List, [], ◌∷◌, ◌++◌, ℕ, ◌-◌}
use Rattle.records.specs.Bytes.{bytes2}
use Rattle.book.specs.Book.{empty_book}
use Rattle.book.specs.Run.{records, run}
use Rattle.demands.specs.Starred.{one_entry, since_bytes}

-- the word of a number below zero: "two signed 16-bit numbers"
abbrev pub negative : ℕ → ℕ
negative n = 65536 - n

-- the four bytes of a position, from the words of easting and northing
abbrev pub position : ℕ → ℕ → List ℕ
position e n = bytes2 e ++ bytes2 n

-- the grid's middle
abbrev pub middle : List ℕ
middle = position 0 0

-- every command that has a position: site 7 is added at p and moved to it, then come legs from p and to p, standing
-- legs from p and to p, a tour that begins at p, and a tour from the middle to p (C-13)
abbrev pub commands_at : List ℕ → List ℕ
commands_at p =
    (0x41 ∷ bytes2 7 ++ p)
    ++ (0x4D ∷ bytes2 7 ++ p)
    ++ (0x4C ∷ p ++ middle)
    ++ (0x4C ∷ middle ++ p)
    ++ (0x53 ∷ p ++ middle)
    ++ (0x53 ∷ middle ++ p)
    ++ (0x42 ∷ p)
    ++ (0x42 ∷ middle)
    ++ (0x43 ∷ p)

-- on the grid each is accepted, or lists site 7
abbrev pub taken : List ℕ
taken =
    0x2B ∷ 0x2B ∷ one_entry (since_bytes 7 0 1) ++ one_entry (since_bytes 7 0 1)
    ++ (0x2B ∷ 0x2B ∷ 0x2B ∷ 0x2B ∷ one_entry (since_bytes 7 0 1))

-- off it each gets 2; the tour from the middle does begin
abbrev pub refused2 : List ℕ
refused2 =
    0x21 ∷ 2 ∷ 0x21 ∷ 2 ∷ 0x21 ∷ 2 ∷ 0x21 ∷ 2 ∷ 0x21 ∷ 2 ∷ 0x21 ∷ 2 ∷ 0x21 ∷ 2 ∷ 0x2B ∷ 0x21 ∷ 2 ∷ []

-- so far from the middle to the east, the west, the north and the south
abbrev pub sides : ℕ → List (List ℕ)
sides n = position n 0 ∷ position (negative n) 0 ∷ position 0 n ∷ position 0 (negative n) ∷ []

-- the corners so far from both axes
abbrev pub corners : ℕ → List (List ℕ)
corners n =
    position n n ∷ position (negative n) n ∷ position n (negative n) ∷ position (negative n) (negative n) ∷ []

-- the records that the book gives to these commands, from laying out on
abbrev pub answers_at : List ℕ → List ℕ
answers_at p = records (run (commands_at p) 1000 empty_book).turns

-- the same records four times
abbrev pub four : List ℕ → List (List ℕ)
four r = r ∷ r ∷ r ∷ r ∷ []
