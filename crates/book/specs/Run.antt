-- A batch call on the book: the commands in turn. Document 01, "The site book".
-- Assumes nothing.
use Rattle.std.specs.Prelude.{◌≡◌, List, [], ◌∷◌, ◌++◌, cond, ℕ, zero, suc, ◌+◌, ◌<◌, length, eqb, leb}
use Rattle.book.specs.declared.Command.{Command}
use Rattle.book.specs.declared.Parsed.{Parsed}
use Rattle.book.specs.declared.Parsed.TheVariants.{End, Unknown, Cut, Whole}
use Rattle.book.specs.declared.Reason.{Reason}
use Rattle.book.specs.declared.Reason.TheVariants.{AllUsed, WrongLength, Broken, UnknownCommand}
use Rattle.book.specs.declared.Reason.TheVariants.{CutShort, NoRoom, BrokenStanding}
use Rattle.book.specs.Command.{parse_at}
use Rattle.book.specs.Book.{Book}
use Rattle.book.specs.Reply.{Reply, record_of}
use Rattle.book.specs.Answer.{answer, after}

-- a command that got a record
pub record Turn : Type 0 where
  pub command : Command
  pub reply : Reply

-- the bytes of the records, in turn
unfoldable pub records : List Turn → List ℕ
records [] = []
records (t ∷ ts) = record_of t.reply ++ records ts

-- how a call ends: the reason, "the bytes of the commands that got a record", those commands, and the book then
pub record Outcome : Type 0 where
  pub reason : Reason
  pub used : ℕ
  pub turns : List Turn
  pub book : Book

-- the call ends here
abbrev pub ends : Reason → ℕ → List Turn → Book → Outcome
ends reason used turns book = record { reason = reason; used = used; turns = turns; book = book }

-- one turn, by what stands at byte `at`: "66 and 67 end the call there"; "A record longer than the report room left
-- is not written; 68 ends the call." `past` are the turns before, and `on` goes on.
unfoldable pub turn : (ℕ → List Turn → Book → Outcome) → Parsed → ℕ → ℕ → List Turn → Book → Outcome
turn on End room at past b = ends AllUsed at past b
turn on Unknown room at past b = ends UnknownCommand at past b
turn on Cut room at past b = ends CutShort at past b
turn on (Whole c next) room at past b =
    cond (leb (length (records past) + length (record_of (answer b c))) room)
    (on next (past ++ (record { command = c; reply = answer b c } ∷ [])) (after b c (answer b c)))
    (ends NoRoom at past b)

-- the commands from byte `at` on, in at most k turns
unfoldable pub run_from : ℕ → List ℕ → ℕ → ℕ → List Turn → Book → Outcome
run_from zero cs room at past b = ends AllUsed at past b
run_from (suc k) cs room at past b = turn (run_from k cs room) (parse_at cs at) room at past b

-- all commands, with so much report room: each takes at least a byte, so that one turn more than bytes is enough
abbrev pub run : List ℕ → ℕ → Book → Outcome
run cs room b = run_from (suc (length cs)) cs room 0 [] b

-- a batch call where a work buffer of n bytes is asked for: "A work buffer of wrong length gives 64 and no step." The
-- book has no other use for n, and does not know the number.
abbrev pub call : ℕ → ℕ → List ℕ → ℕ → Book → Outcome
call n work cs room b = cond (eqb work n) (run cs room b) (ends WrongLength 0 [] b)

-- the book after turns
abbrev pub after_all : Book → List Turn → Book
after_all b [] = b
after_all b (t ∷ ts) = after_all (after b t.command t.reply) ts

-- "the command's record exceeds what is left of the report buffer": of the command that stands at `used`
pub record TooLong (cs : List ℕ) (room used : ℕ) (past : List Turn) (b : Book) : Type 0 where
  pub command : Command
  pub next : ℕ
  pub stands : parse_at cs used ≡ Whole command next
  pub long : room < length (records past) + length (record_of (answer b command))

-- what a reason says of the byte where a call ended, with the turns before it and the book then. Document 01, "Causes
-- and numbers", 0 and 66 to 68.
abbrev pub StopsFor : List ℕ → ℕ → Reason → ℕ → List Turn → Book → Type 0
StopsFor cs room AllUsed used past b = used ≡ length cs
StopsFor cs room WrongLength used past b = ⊥
StopsFor cs room Broken used past b = ⊥
StopsFor cs room UnknownCommand used past b = parse_at cs used ≡ Unknown
StopsFor cs room CutShort used past b = parse_at cs used ≡ Cut
StopsFor cs room NoRoom used past b = TooLong cs room used past b
StopsFor cs room BrokenStanding used past b = ⊥
