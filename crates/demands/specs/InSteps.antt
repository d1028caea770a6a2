-- The same calls with the steps written out. Document 02, C-15: "A run whose readings are all finite must answer,
-- record for record, as the same run with the steps written out, a step off the grid as 32,767."
-- Assumes nothing.
use Rattle.std.specs.Prelude.{◌≡◌, List, [], ◌∷◌, map, ℕ, length, take, drop}
use Rattle.book.specs.WrittenOut.{written_bytes, AllFinite}
use Rattle.table_rules.specs.Table.{Sound, book_of}
use Rattle.demands.specs.Whole.{Call, Made, Said, said, Ask, asked}

-- the same call with the steps written out
abbrev pub written_ask : Ask → Ask
written_ask a = record { work = a.work; commands = written_bytes a.commands; room = a.room }

-- the readings of each call are all finite
abbrev pub FiniteCalls : List Call → Type 0
FiniteCalls [] = Unit {0}
FiniteCalls (c ∷ cs) = AllFinite c.commands × FiniteCalls cs

-- the bytes that a call used, with the steps written out
abbrev pub used_written : Call → ℕ
used_written c = length (written_bytes (take c.result.used c.commands))

-- what the same call says with the steps written out: the same reason and the same report, record for record; `used`
-- counts its own bytes, those of the same commands
abbrev pub said_written : Call → Said
said_written c =
    record { reason = (said c).reason; used = used_written c; written = (said c).written; bytes = (said c).bytes }

-- what a call left of its commands, written out, is what the other leaves: who asks again with the rest asks the same
abbrev pub LeftWritten : List Call → Type 0
LeftWritten [] = Unit {0}
LeftWritten (c ∷ cs) =
    (drop (used_written c) (written_bytes c.commands) ≡ written_bytes (drop c.result.used c.commands))
    × LeftWritten cs

-- two lists of calls on sound tables of one book, as two tables just laid out are: the readings of cs are all finite,
-- and ds are the same calls with the steps written out
pub record AskedInSteps (t u : List ℕ) (cs ds : List Call) (t' u' : List ℕ) : Type 0 where
  pub sound : Sound t × Sound u
  pub book : book_of t ≡ book_of u
  pub made : Made t cs t' × Made u ds u'
  pub all_finite : FiniteCalls cs
  pub asked_written : map asked ds ≡ map written_ask (map asked cs)

-- C-15: they are answered alike, whatever the reasons, and leave tables of one book
pub record AnsweredInSteps (cs ds : List Call) (t' u' : List ℕ) : Type 0 where
  pub said_as_written : map said ds ≡ map said_written cs
  pub left_written : LeftWritten cs
  pub sound : Sound t' × Sound u'
  pub book : book_of t' ≡ book_of u'
