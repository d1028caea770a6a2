-- The bytes of a command: what parsing reads back (proofs/ReadBack.antt). Document 01, the table of commands.
-- Assumes nothing.
use Rattle.std.specs.Prelude.{List, [], ◌∷◌, ◌++◌, ℕ}
use Rattle.grid.specs.declared.Position.{Position}
use Rattle.grid.specs.declared.Site.{Site}
use Rattle.grid.specs.declared.Leg.{Leg}
use Rattle.grid.specs.Coordinate.{to_word}
use Rattle.std.specs.Float.{binary32}
use Rattle.std.specs.Float.Ieee.{to_bits}
use Rattle.readings.specs.declared.Reading.{Reading}
use Rattle.readings.specs.declared.Location.TheVariants.{InSteps, InMetres}
use Rattle.records.specs.Bytes.{bytes2, bytes4}
use Rattle.book.specs.declared.Command.{Command}
use Rattle.book.specs.declared.Command.TheVariants.{Add, Remove, Move, List as ListOf, Stand, Print}
use Rattle.book.specs.declared.Command.TheVariants.{Begin, Corner}

-- a position, as two signed 16-bit numbers
abbrev pub position_bytes : Position → List ℕ
position_bytes p = bytes2 (to_word p.east) ++ bytes2 (to_word p.north)

-- two readings, each as the pattern of its number
abbrev pub reading_bytes : Reading → List ℕ
reading_bytes r = bytes4 (to_bits binary32 r.easting) ++ bytes4 (to_bits binary32 r.northing)

-- "S, E"
abbrev pub leg_bytes : Leg → List ℕ
leg_bytes l = position_bytes l.s ++ position_bytes l.e

-- a command and its operands
abbrev pub command_bytes : Command → List ℕ
command_bytes (Add n (InSteps p)) = 0x41 ∷ bytes2 n ++ position_bytes p
command_bytes (Add n (InMetres r)) = 0x61 ∷ bytes2 n ++ reading_bytes r
command_bytes (Remove n) = 0x44 ∷ bytes2 n
command_bytes (Move n (InSteps p)) = 0x4D ∷ bytes2 n ++ position_bytes p
command_bytes (Move n (InMetres r)) = 0x6D ∷ bytes2 n ++ reading_bytes r
command_bytes (ListOf l) = 0x4C ∷ leg_bytes l
command_bytes (Stand l) = 0x53 ∷ leg_bytes l
command_bytes Print = 0x50 ∷ []
command_bytes (Begin p) = 0x42 ∷ position_bytes p
command_bytes (Corner p) = 0x43 ∷ position_bytes p

-- an addition for each site
abbrev pub additions : List Site → List ℕ
additions [] = []
additions (p ∷ s) = command_bytes (Add p.number (InSteps p.position)) ++ additions s
