-- Tours to try, in bytes: over four calls, with a record that has no room and the same command again, refusals, and each
-- command that ends a tour. Document 02, C-13. Sites 1 (2,3) and 2 (7,1) of document 01's first leg, there and back.
-- Assumes nothing.
use Rattle.std.specs.Prelude.{◌≡◌, List, [], ◌∷◌, ◌++◌, map, ℕ, length, Option, None, Some}
use Rattle.limits.specs.Limits.{work_bytes}
use Rattle.grid.specs.declared.Leg.{Leg}
use Rattle.grid.specs.declared.Site.{Site}
use Rattle.grid.specs.declared.Fraction.{Fraction}
use Rattle.grid.specs.Fraction.{IsFraction}
use Rattle.split.specs.SplitList.{name_at}
use Rattle.split.specs.SplitOf.{split_of}
use Rattle.split.specs.Legs.{at, site, leg, ten}
use Rattle.records.specs.Bytes.{bytes2}
use Rattle.records.specs.Decode.{Listed, listed_of}
use Rattle.book.specs.declared.Command.{Command}
use Rattle.book.specs.declared.Command.TheVariants.{Remove, List as ListOf, Stand, Print, Begin, Corner}
use Rattle.book.specs.Command.{add_at, move_to}
use Rattle.book.specs.Tour.{left_out}
use Rattle.book.specs.Listener.{said_done, said_refused, said_list, Exchange, hear_records, commands_in, said_at, heard_leg}
use Rattle.demands.specs.Whole.{Said, Ask}
use Rattle.demands.specs.Starred.{Line, line, bytes_of, since_bytes, one_entry, two_entries}

-- a list record without an entry
abbrev pub no_entry : List ℕ
no_entry = 0x3D ∷ bytes2 0

-- a 43 without a tour; off the grid and then without a site, 41, and 43 again; the tests come in the order 8, 2, 6.
-- A tour there and back, refusals and what else leaves it, a leg of no length: "the count may then be 0".
-- Each command that ends a tour, a move of a site to its own position too. Some readings are held by these lines alone,
-- as that 41 and 4D end a tour and that 42 begins anew: none may be shortened.
abbrev pub tour_lines : List Line
tour_lines =
    line
    (Corner (at 20000 0) ∷ Begin (at 20000 0) ∷ Begin (at 0 0) ∷ Corner (at 20000 0) ∷ Corner (at 10 0) ∷ add_at 1 (at 2 3)
    ∷ Corner (at 10 0) ∷ [])
    (0x21 ∷ 8 ∷ 0x21 ∷ 2 ∷ 0x2B ∷ 0x21 ∷ 2 ∷ 0x21 ∷ 6 ∷ 0x2B ∷ 0x21 ∷ 8 ∷ [])
    ∷ line
    (add_at 1 (at 2 3) ∷ add_at 2 (at 7 1) ∷ Begin (at 0 0) ∷ Corner (at 10 0) ∷ Corner (at 20000 0) ∷ Begin (at 20000 0)
    ∷ Stand ten ∷ ListOf ten ∷ Print ∷ Remove 9 ∷ add_at 1 (at 5 5) ∷ Corner (at 10 0) ∷ Corner (at 9 0) ∷ Corner (at 0 0)
    ∷ Begin (at 0 0) ∷ Corner (at 10 0) ∷ [])
    (0x2B ∷ 0x2B ∷ 0x2B ∷ two_entries (since_bytes 1 0 1) (since_bytes 2 37 100) ++ (0x21 ∷ 2 ∷ 0x21 ∷ 2 ∷ 0x2B ∷ [])
    ++ two_entries (since_bytes 1 0 1) (since_bytes 2 37 100) ++ two_entries (since_bytes 1 0 1) (since_bytes 2 37 100)
    ++ (0x21 ∷ 4 ∷ 0x21 ∷ 3 ∷ []) ++ no_entry ++ no_entry ++ one_entry (since_bytes 1 53 90)
    ++ (0x2B ∷ two_entries (since_bytes 1 0 1) (since_bytes 2 37 100)))
    ∷ line
    (add_at 1 (at 2 3) ∷ add_at 2 (at 7 1) ∷ Begin (at 0 0) ∷ Corner (at 10 0) ∷ add_at 3 (at 50 50) ∷ Corner (at 0 0)
    ∷ Begin (at 0 0) ∷ Remove 3 ∷ Corner (at 0 0) ∷ Begin (at 0 0) ∷ move_to 2 (at 7 1) ∷ Corner (at 0 0) ∷ [])
    (0x2B ∷ 0x2B ∷ 0x2B ∷ two_entries (since_bytes 1 0 1) (since_bytes 2 37 100)
    ++ (0x2B ∷ 0x21 ∷ 8 ∷ 0x2B ∷ 0x2B ∷ 0x21 ∷ 8 ∷ 0x2B ∷ 0x2B ∷ 0x21 ∷ 8 ∷ []))
    ∷ []

-- a call with this report room
abbrev pub asking : List Command → ℕ → Ask
asking cs room = record { work = work_bytes; commands = bytes_of cs; room = room }

-- what it says
abbrev pub saying : ℕ → ℕ → List ℕ → Said
saying reason used bytes = record { reason = reason; used = used; written = length bytes; bytes = bytes }

-- over four calls: a tour begins, and there is no room for the record of its first leg; the same 43 again, with room; a
-- refusal, a standing leg and a list, which leave the tour, a leg whose record has no entry, and the way back; an
-- addition, which ends the tour, another one begun, and its first leg
abbrev pub tour_asks : List Ask
tour_asks =
    asking (add_at 1 (at 2 3) ∷ add_at 2 (at 7 1) ∷ Begin (at 0 0) ∷ Corner (at 10 0) ∷ []) 25
    ∷ asking (Corner (at 10 0) ∷ []) 23
    ∷ asking (Corner (at 20000 0) ∷ Stand ten ∷ ListOf ten ∷ Corner (at 9 0) ∷ Corner (at 0 0) ∷ []) 100
    ∷ asking (add_at 3 (at 50 50) ∷ Corner (at 0 0) ∷ Begin (at 0 0) ∷ Corner (at 10 0) ∷ []) 27
    ∷ []

-- "A refused command leaves corner and tour", and so does 68: the tour goes on from (0,0), and then from (10,0)
abbrev pub tour_says : List Said
tour_says =
    saying 68 19 (0x2B ∷ 0x2B ∷ 0x2B ∷ [])
    ∷ saying 0 5 (two_entries (since_bytes 1 0 1) (since_bytes 2 37 100))
    ∷ saying 0 33
    ((0x21 ∷ 2 ∷ 0x2B ∷ two_entries (since_bytes 1 0 1) (since_bytes 2 37 100)) ++ no_entry ++ one_entry (since_bytes 1 53 90))
    ∷ saying 0 22 ((0x2B ∷ 0x21 ∷ 8 ∷ 0x2B ∷ []) ++ two_entries (since_bytes 1 0 1) (since_bytes 2 37 100))
    ∷ []

-- what a listener hears of them
abbrev pub exchanges : List Ask → List Said → List Exchange
exchanges [] ss = []
exchanges (a ∷ more) [] = []
exchanges (a ∷ more) (s ∷ ss) = hear_records (commands_in a.commands s.used) s.bytes ++ exchanges more ss

-- an entry that was heard
abbrev pub since : ℕ → ℕ → ℕ → Listed
since k n d = record { number = k; start = record { num = n; den = d } }

-- a command that got 2B
abbrev pub granted : Command → Exchange
granted c = record { command = c; told = said_done }

-- the entries of the first leg
abbrev pub ten_listed : List Listed
ten_listed = since 1 0 1 ∷ since 2 37 100 ∷ []

-- what is heard before the first leg, before the second, before the way back, and before the leg of the other tour
abbrev pub before_first : List Exchange
before_first = granted (add_at 1 (at 2 3)) ∷ granted (add_at 2 (at 7 1)) ∷ granted (Begin (at 0 0)) ∷ []

-- a refused 43, a 53 and a 4C stand between the first leg and the second
abbrev pub before_second : List Exchange
before_second =
    before_first
    ++ (heard_leg (at 10 0) ten_listed
    ∷ record { command = Corner (at 20000 0); told = said_refused 2 }
    ∷ granted (Stand ten)
    ∷ record { command = ListOf ten; told = said_list ten_listed }
    ∷ [])

-- the second leg's record has no entry
abbrev pub before_back : List Exchange
before_back = before_second ++ (heard_leg (at 9 0) [] ∷ [])

-- the way back; then the tour ends, a 43 gets 8, and another tour begins
abbrev pub before_other : List Exchange
before_other =
    before_back
    ++ (heard_leg (at 0 0) (since 1 53 90 ∷ [])
    ∷ granted (add_at 3 (at 50 50))
    ∷ record { command = Corner (at 0 0); told = said_refused 8 }
    ∷ granted (Begin (at 0 0))
    ∷ [])

-- all that is heard
abbrev pub tour_hearing : List Exchange
tour_hearing = before_other ++ (heard_leg (at 10 0) ten_listed ∷ [])

-- the two sites, and the three
abbrev pub both_sites : List Site
both_sites = site 1 (at 2 3) ∷ site 2 (at 7 1) ∷ []

-- with the one that was added
abbrev pub three_sites : List Site
three_sites = site 1 (at 2 3) ∷ site 2 (at 7 1) ∷ site 3 (at 50 50) ∷ []

-- the promise of a leg l over the sites s, written out: at each fraction 4C's list names a site, and so does the record
-- es, or else the number that was heard last before it; and the record is that list but for such a first entry
abbrev pub LegSaid : Leg → List Site → Option ℕ → List Listed → Type 0
LegSaid l s last es =
    ((t : Fraction) → IsFraction t
    → (p : Site) × ((name_at t (split_of l s) ≡ Some p) × (said_at t last es ≡ Some p.number)))
    × (es ≡ map listed_of (left_out last (split_of l s)))

-- all four legs: the first of a tour, one whose record has no entry, the way back, and the first of another tour
pub record LegsSaid : Type 0 where
  pub first : LegSaid ten both_sites None ten_listed
  pub second : LegSaid (leg (at 10 0) (at 9 0)) both_sites (Some 2) []
  pub back : LegSaid (leg (at 9 0) (at 0 0)) both_sites (Some 2) (since 1 53 90 ∷ [])
  pub other : LegSaid ten three_sites None ten_listed
