-- A run of the batch program as the batch calls that it makes: how successive calls hang together. Document 01,
-- "Legs to try", last paragraph. No contract can say which bytes are read and written, nor that a call of C was
-- made: the bytes read are any, a read may be told to have failed, and what is written is each call's report.
-- Assumes nothing.
use Rattle.std.specs.Prelude.{◌≡◌, Bool, true, false, List, [], ◌∷◌, ◌++◌, ℕ, ◌≤◌, ◌<◌, length, take, drop}
use Rattle.limits.specs.Limits.{max_sites, work_bytes}
use Rattle.records.specs.ListRecord.{list_size}
use Rattle.book.specs.declared.Reason.{Reason}
use Rattle.book.specs.declared.Reason.TheVariants.{AllUsed, WrongLength, Broken, UnknownCommand}
use Rattle.book.specs.declared.Reason.TheVariants.{CutShort, NoRoom, BrokenStanding}
use Rattle.book.specs.declared.BatchResult.{BatchResult}
use Rattle.book.specs.Command.{command_table, longest_in}
use Rattle.book.specs.Numbers.{reason_number}
use Rattle.demands.specs.Batch.{Return, return_of, Batch}
use Rattle.demands.specs.Whole.{Call, Made, Ran}
use Rattle.stops.specs.declared.Batched.{Batched}
use Rattle.stops.specs.declared.Next.{Next}
use Rattle.stops.specs.declared.Next.TheVariants.{More, End, Unread, Untaken, Spent}
use Rattle.stops.specs.declared.Got.{Got}
use Rattle.stops.specs.declared.Got.TheVariants.{Bytes, Ended, Failed}
use Rattle.stops.specs.Input.{TakenWhole}

-- the bytes of the longest command
abbrev pub longest_command : ℕ
longest_command = longest_in command_table

-- the bytes of a list of all sites
abbrev pub longest_record : ℕ
longest_record = list_size max_sites

-- the buffers of a run: a work buffer of the right length, an input that holds the longest command, and a report that
-- holds the longest record
pub record Buffers (w s rep : List ℕ) : Type 0 where
  pub work : length w ≡ work_bytes
  pub input : longest_command ≤ length s
  pub report : longest_record ≤ length rep

-- "A cut command is joined with what follows": the bytes left by the call before, and at least one that was read
pub record JoinedInput (size : ℕ) (rest held : List ℕ) : Type 0 where
  pub fresh : List ℕ
  pub some : 0 < length fresh
  pub joined : held ≡ rest ++ fresh
  pub fits : length held ≤ size

-- the commands of the call that follows one which ended with this reason and left these bytes: "68 empties the
-- report buffer", so that the same command finds room
abbrev pub Onward : ℕ → Reason → List ℕ → List ℕ → Type 0
Onward size AllUsed rest held = JoinedInput size rest held
Onward size WrongLength rest held = ⊥
Onward size Broken rest held = ⊥
Onward size UnknownCommand rest held = ⊥
Onward size CutShort rest held = JoinedInput size rest held
Onward size NoRoom rest held = held ≡ rest
Onward size BrokenStanding rest held = ⊥

-- the reasons after which the program reads
abbrev pub WantsMore : Reason → Type 0
WantsMore AllUsed = Unit {0}
WantsMore WrongLength = ⊥
WantsMore Broken = ⊥
WantsMore UnknownCommand = ⊥
WantsMore CutShort = Unit {0}
WantsMore NoRoom = ⊥
WantsMore BrokenStanding = ⊥

-- the reason of a call that left so many bytes in an input buffer of `size`: after 0 and 67 there is room behind
-- them, so that a read of nothing is the end of the input, and 64, 65 and 69 do not come
abbrev pub Resumable : ℕ → Reason → ℕ → Type 0
Resumable size AllUsed left = left < size
Resumable size WrongLength left = ⊥
Resumable size Broken left = ⊥
Resumable size UnknownCommand left = Unit {0}
Resumable size CutShort left = left < size
Resumable size NoRoom left = Unit {0}
Resumable size BrokenStanding left = ⊥

-- "It stops at the end of the input or after 66"
abbrev pub Final : Reason → Type 0
Final AllUsed = Unit {0}
Final WrongLength = ⊥
Final Broken = ⊥
Final UnknownCommand = Unit {0}
Final CutShort = Unit {0}
Final NoRoom = ⊥
Final BrokenStanding = ⊥

-- what follows a read after a call that ended with this reason
abbrev pub after_read : Got → Reason → Next
after_read (Bytes n) reason = More n
after_read Ended reason = End reason
after_read Failed reason = Unread

-- what follows a call with this reason that left these bytes and whose report was taken, where the input buffer is
-- s' then
abbrev pub Follows : ℕ → Reason → List ℕ → Next → List ℕ → Type 0
Follows size reason rest (More n) s' = (n ≤ length s') × Onward size reason rest (take n s')
Follows size reason rest (End x) s' = (x ≡ reason) × Final reason
Follows size reason rest Unread s' = WantsMore reason
Follows size reason rest Untaken s' = ⊥
Follows size reason rest Spent s' = ⊥

-- the same, told whether the report was taken: if not, the run breaks off
abbrev pub Proceeds : ℕ → Reason → List ℕ → Bool → Next → List ℕ → Type 0
Proceeds size reason rest true x s' = Follows size reason rest x s'
Proceeds size reason rest false x s' = x ≡ Untaken

-- a call that found no room wrote something, so that the same command is not refused again
abbrev pub Moves : Return → Type 0
Moves r = r.reason ≡ 68 → 0 < r.written

-- the bytes that a call left
abbrev pub rest_of : Return → List ℕ → List ℕ
rest_of r commands = drop r.used commands

-- a batch over the first `held` bytes of the input buffer s, which keeps those that the batch left
pub record Reported (held : ℕ) (t w s rep : List ℕ) (r : Batched) (t' w' s' rep' : List ℕ) : Type 0 where
  pub result : BatchResult
  pub made : Batch t w (take held s) rep (return_of result) t' w' rep'
  pub reason : r.reason ≡ result.reason
  pub inside : r.left ≤ length s'
  pub ready : Resumable (length s') r.reason r.left
  pub rest : take r.left s' ≡ rest_of (return_of result) (take held s)
  pub moves : Moves (return_of result)
  pub output : TakenWhole r.taken result.written
  pub len : length s' ≡ length s

-- the same, and what follows
pub record Turned (held : ℕ) (t w s rep : List ℕ) (r : Next) (t' w' s' rep' : List ℕ) : Type 0 where
  pub result : BatchResult
  pub made : Batch t w (take held s) rep (return_of result) t' w' rep'
  pub taken : Bool
  pub output : TakenWhole taken result.written
  pub proceeds : Proceeds (length s) result.reason (rest_of (return_of result) (take held s)) taken r s'
  pub moves : Moves (return_of result)
  pub len : length s' ≡ length s

-- the call takes the held bytes, with buffers of these lengths
pub record Takes (room : ℕ) (held : List ℕ) (c : Call) : Type 0 where
  pub commands : c.commands ≡ held
  pub work : length c.work ≡ work_bytes
  pub report : length c.report ≡ room

-- each call takes what the one before left and what was read behind that; so many bytes are held then
pub data Fed (size room : ℕ) : List Call → List ℕ → Type 0 where
  start : Fed size room [] []
  more : {cs : List Call} {held held' : List ℕ} {c : Call} (reason : Reason)
      → Fed size room cs held → Takes room held c → c.result.reason ≡ reason_number reason → Moves c.result
      → Onward size reason (rest_of c.result c.commands) held' → Fed size room (cs ++ (c ∷ [])) held'

-- how many turns the program has: 2^64 - 1, more than any run takes
abbrev pub most_calls : ℕ
most_calls = 18446744073709551615

-- THE PROGRAM'S CALLS, with an input buffer of `size` bytes and a report buffer of `room`: "It stops at the end of
-- the input or after 66", with the reason of the last call. Or it breaks off: behind a call after which it reads,
-- since the read failed; since the report of the last call, which was not empty, was not taken; or since the count
-- of turns is spent.
pub data Calls (size room : ℕ) : List Call → Next → Type 0 where
  ended : {cs : List Call} {held : List ℕ} {c : Call} {reason : Reason}
      → Fed size room cs held → Takes room held c → c.result.reason ≡ reason_number reason → Final reason
      → Calls size room (cs ++ (c ∷ [])) (End reason)
  unread : {cs : List Call} {held : List ℕ} {c : Call} (reason : Reason)
      → Fed size room cs held → Takes room held c → c.result.reason ≡ reason_number reason → WantsMore reason
      → Calls size room (cs ++ (c ∷ [])) Unread
  untaken : {cs : List Call} {held : List ℕ} {c : Call}
      → Fed size room cs held → Takes room held c → 0 < c.result.written
      → Calls size room (cs ++ (c ∷ [])) Untaken
  spent : {cs : List Call} {held : List ℕ} → Fed size room cs held → length cs ≡ most_calls → Calls size room cs Spent

-- a run of them on the table t, which leaves t'
pub record Series (size room : ℕ) (t : List ℕ) (r : Next) (t' : List ℕ) : Type 0 where
  pub calls : List Call
  pub are : Calls size room calls r
  pub made : Made t calls t'

-- THE PROGRAM, on a table that it lays out itself and leaves as t'. What the book says of such calls, they say
-- (`ran_answers`).
pub record Program (size room : ℕ) (r : Next) (t' : List ℕ) : Type 0 where
  pub calls : List Call
  pub are : Calls size room calls r
  pub ran : Ran calls t'
