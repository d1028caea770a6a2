-- What a listener knows of a tour who hears the commands and their records, byte by byte, and nothing of the table.
-- Document 02, C-13: "In any run from a laid-out table, at each fraction of each leg answered in a tour, the last entry
-- of its record whose start is not above it, or else the last entry in the tour's earlier records, must name the site
-- that command 4C's list of that leg names there."
-- Assumes nothing.
use Rattle.std.specs.Prelude.{◌≡◌, List, [], ◌∷◌, ◌++◌, map, cond, ℕ, zero, suc, ◌*◌, get_or, drop, eqb, leb}
use Rattle.std.specs.Prelude.{Option, None, Some}
use Rattle.std.proofs.Math.Decide.{dec_le}
use Rattle.grid.specs.declared.Position.{Position}
use Rattle.grid.specs.declared.Leg.{Leg}
use Rattle.grid.specs.declared.Site.{Site}
use Rattle.grid.specs.declared.Fraction.{Fraction}
use Rattle.grid.specs.Fraction.{IsFraction}
use Rattle.split.specs.SplitList.{Entry, name_at}
use Rattle.split.specs.Choice.{pick}
use Rattle.records.specs.ListRecord.{list_size}
use Rattle.records.specs.Decode.{Listed, listed_of, read2, read_record}
use Rattle.book.specs.declared.Command.{Command}
use Rattle.book.specs.declared.Command.TheVariants.{Add, Remove, Move, List as ListOf, Stand, Print}
use Rattle.book.specs.declared.Command.TheVariants.{Begin, Corner}
use Rattle.book.specs.declared.Parsed.{Parsed}
use Rattle.book.specs.declared.Parsed.TheVariants.{End, Unknown, Cut, Whole}
use Rattle.book.specs.Command.{parse_at}
use Rattle.book.specs.Tour.{left_out}
use Rattle.book.specs.Book.{Book, empty_book, change}
use Rattle.book.specs.Reply.{listed}
use Rattle.book.specs.Answer.{answer}

-- ---- commands and records, heard

-- what a record says: accepted; refused, with the number; a list
pub data Told : Type 0 where
  said_done : Told
  said_refused : ℕ → Told
  said_list : List Listed → Told

-- the record that the bytes begin with, by its mark: "2B for an accepted change or 53; 21 and the refusal number as a
-- byte; 3D, a 16-bit count, then per entry .."
abbrev pub read_reply : List ℕ → Told
read_reply s =
    cond (eqb (get_or s 0 0) 0x3D) (said_list (read_record s))
    (cond (eqb (get_or s 0 0) 0x2B) said_done
    (said_refused (get_or s 1 0)))

-- the bytes that it takes
abbrev pub reply_bytes : List ℕ → ℕ
reply_bytes s = cond (eqb (get_or s 0 0) 0x3D) (list_size (read2 s 1)) (cond (eqb (get_or s 0 0) 0x2B) 1 2)

-- a command, and what its record says
pub record Exchange : Type 0 where
  pub command : Command
  pub told : Told

-- the commands, each with its record: the records stand behind each other
unfoldable pub hear_records : List Command → List ℕ → List Exchange
hear_records [] s = []
hear_records (c ∷ cs) s = record { command = c; told = read_reply s } ∷ hear_records cs (drop (reply_bytes s) s)

-- a command that stands there, and those behind it
abbrev pub and_on : (ℕ → List Command) → Parsed → List Command
and_on on End = []
and_on on Unknown = []
and_on on Cut = []
and_on on (Whole c next) = c ∷ on next

-- at most k commands from byte `at` on, as far as the first `used` bytes go
unfoldable pub commands_from : ℕ → List ℕ → ℕ → ℕ → List Command
commands_from zero s used at = []
commands_from (suc k) s used at = cond (leb used at) [] (and_on (commands_from k s used) (parse_at s at))

-- the commands of the first `used` bytes: each takes at least a byte
abbrev pub commands_in : List ℕ → ℕ → List Command
commands_in s used = commands_from used s used 0

-- ---- the tour, as it was heard

-- the last corner, and the entries of the tour's records so far, in turn
pub record Trip : Type 0 where
  pub corner : Position
  pub entries : List Listed

-- the next leg's record; what is heard without a tour begins none
abbrev pub onward : Option Trip → Position → List Listed → Option Trip
onward None p es = None
onward (Some k) p es = Some (record { corner = p; entries = k.entries ++ es })

-- after a command that got 2B: "Command 42 .. begins a tour"; "An accepted 41, 44 or 4D ends the tour.", and so do 61
-- and 6D
abbrev pub hear_done : Option Trip → Command → Option Trip
hear_done o (Add n l) = None
hear_done o (Remove n) = None
hear_done o (Move n l) = None
hear_done o (ListOf l) = o
hear_done o (Stand l) = o
hear_done o Print = o
hear_done o (Begin p) = Some (record { corner = p; entries = [] })
hear_done o (Corner p) = o

-- after one that got a list: that of a 43 is the next leg's. (No command but 4C, 50 and 43 gets a list, and a 43 no 2B;
-- what these cases say is never asked.)
abbrev pub hear_list : Option Trip → Command → List Listed → Option Trip
hear_list o (Add n l) es = o
hear_list o (Remove n) es = o
hear_list o (Move n l) es = o
hear_list o (ListOf l) es = o
hear_list o (Stand l) es = o
hear_list o Print es = o
hear_list o (Begin p) es = o
hear_list o (Corner p) es = onward o p es

-- after a command and its record: "A refused command leaves corner and tour."
abbrev pub hear : Option Trip → Command → Told → Option Trip
hear o c said_done = hear_done o c
hear o c (said_refused n) = o
hear o c (said_list es) = hear_list o c es

-- after several
abbrev pub hear_all : Option Trip → List Exchange → Option Trip
hear_all o [] = o
hear_all o (u ∷ us) = hear_all (hear o u.command u.told) us

-- the tour that is under way, or none, from laying out on
abbrev pub tour_heard : List Exchange → Option Trip
tour_heard us = hear_all None us

-- the site book after a command and its record
abbrev pub after_told : Book → Command → Told → Book
after_told b c said_done = change c b
after_told b c (said_refused n) = b
after_told b c (said_list es) = change c b

-- after several
abbrev pub after_heard : Book → List Exchange → Book
after_heard b [] = b
after_heard b (u ∷ us) = after_heard (after_told b u.command u.told) us

-- from laying out on: what a 4C is answered by then
abbrev pub book_heard : List Exchange → Book
book_heard us = after_heard empty_book us

-- ---- what is said at a fraction

-- the number of the last entry, or else this one
abbrev pub last_in : Option ℕ → List Listed → Option ℕ
last_in o [] = o
last_in o (e ∷ es) = last_in (Some e.number) es

-- "the last entry in the tour's earlier records"
abbrev pub last_heard : Trip → Option ℕ
last_heard k = last_in None k.entries

-- "the last entry of its record whose start is not above it, or else" this one
abbrev pub said_at : Fraction → Option ℕ → List Listed → Option ℕ
said_at t o [] = o
said_at t o (e ∷ es) =
    pick (dec_le (e.start.num * t.den) (t.num * e.start.den)) (said_at t (Some e.number) es) (said_at t o es)

-- at t, the record es, or else what was heard in the tour k before it, "must name the site that command 4C's list ..
-- names there"
pub record ToldAt (t : Fraction) (k : Trip) (es : List Listed) (whole : List Entry) : Type 0 where
  pub site : Site
  pub names : name_at t whole ≡ Some site
  pub told : said_at t (last_heard k) es ≡ Some site.number

-- the leg to p of a tour that was heard
abbrev pub leg_of : Trip → Position → Leg
leg_of k p = record { s = k.corner; e = p }

-- THE PROMISE of a 43 to p that was answered by the record es, where b is the site book then and o the tour as it was
-- heard
pub record LegTold (b : Book) (o : Option Trip) (p : Position) (es : List Listed) : Type 0 where
  pub tour : Trip
  pub heard : o ≡ Some tour
  -- "command 4C's list of that leg"
  pub whole : List Entry
  pub by4_c : answer b (ListOf (leg_of tour p)) ≡ listed whole
  -- "at each fraction"
  pub everywhere : (t : Fraction) → IsFraction t → ToldAt t tour es whole
  -- the record is that list, but for a first entry that names the site heard last
  pub record_is : es ≡ map listed_of (left_out (last_heard tour) whole)

-- a 43 to p and the list that it was answered
abbrev pub heard_leg : Position → List Listed → Exchange
heard_leg p es = record { command = Corner p; told = said_list es }
