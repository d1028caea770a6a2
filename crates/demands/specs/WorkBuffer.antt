-- The same calls with work buffers of another length. Document 02, C-21: "All answers, records and report bytes are
-- those of the larger buffer."
-- Assumes nothing.
use Rattle.std.specs.Prelude.{◌≡◌, List, map, cond, ℕ, suc, eqb}
use Rattle.limits.specs.Limits.{work_bytes}
use Rattle.book.specs.Book.{Book}
use Rattle.demands.specs.Whole.{Call, said, Ask, asked, replies_asking}

-- the same call where a work buffer of n bytes is asked for: a right one for a right one, and a wrong one for a wrong
-- one
abbrev pub resized : ℕ → Ask → Ask
resized n a = record { work = cond (eqb a.work work_bytes) n (suc n); commands = a.commands; room = a.room }

-- C-21 of calls on a table of the book b: whatever length n was asked for before, they say what the book said to the
-- same calls then
abbrev pub AnyLength : Book → List Call → Type 0
AnyLength b cs = (n : ℕ) → map said cs ≡ replies_asking n b (map (resized n) (map asked cs))
