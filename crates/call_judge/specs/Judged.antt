-- The answer to a command, beside the book's. Document 01, "The site book".
-- Assumes nothing.
use Rattle.std.specs.Prelude.{◌≡◌, List, ℕ, ◌≤◌}
use Rattle.grid.specs.Position.{LegOnGrid}
use Rattle.list_row.specs.Vertices.{Held}
use Rattle.list_row.specs.Entries.{entries_from}
use Rattle.book.specs.declared.Command.{Command}
use Rattle.book.specs.Reply.{Reply, done, refused, listed}
use Rattle.book.specs.Answer.{answer}
use Rattle.table_rules.specs.Table.{book_of}
use Rattle.call_judge.specs.declared.Answer.{Answer}

-- the reply that an answer stands for, with the table t and the row w
abbrev pub reply_of : Answer → List ℕ → List ℕ → Reply
reply_of Answer.Done t w = done
reply_of (Answer.Refused x) t w = refused x
reply_of (Answer.Listed l j k) t w = listed (entries_from l t w j k)

-- the row of a list can be printed
abbrev pub RowOk : Answer → List ℕ → List ℕ → Type 0
RowOk Answer.Done t w = Unit {0}
RowOk (Answer.Refused x) t w = Unit {0}
RowOk (Answer.Listed l j k) t w = LegOnGrid l × Held l t w k × (j ≤ k)

-- the answer is the book's
pub record Judged (a : Answer) (c : Command) (t w : List ℕ) : Type 0 where
  pub said : reply_of a t w ≡ answer (book_of t) c
  pub row : RowOk a t w
