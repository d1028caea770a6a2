-- What one command does to the table's bytes. Document 01, "Causes and numbers", the column "Left as it was".
-- Assumes nothing.
use Rattle.std.specs.Prelude.{◌≡◌, Bool, true, false, List, [], ◌∷◌, ℕ}
use Rattle.words.specs.Words.{Only}
use Rattle.book.specs.declared.Command.{Command}
use Rattle.book.specs.declared.Command.TheVariants.{Add, Remove, Move, List as ListOf, Stand, Print}
use Rattle.book.specs.declared.Command.TheVariants.{Begin, Corner}
use Rattle.book.specs.Book.{Book, change}
use Rattle.book.specs.Reply.{Reply, done, refused, listed}
use Rattle.book.specs.Answer.{reads}
use Rattle.book.specs.Run.{Turn}
use Rattle.table_header.specs.Layout.{tour_start, tour_end}
use Rattle.table_rules.specs.Table.{Sound, book_of}

-- t is a sound table of the book b. Which bytes it has is the program's choice: the shape of the tree, its node ids
-- and the order of entries and of free nodes, the bytes that docs/LAYOUT.md calls free, records and words past a
-- count, entries past a node's number of them, and free nodes. What all choices have in common: they answer alike
-- (`Alike`).
pub record Holds (t : List ℕ) (b : Book) : Type 0 where
  pub sound : Sound t
  pub book : book_of t ≡ b

-- a command that was refused, or that changes nothing, keeps the table
abbrev pub keeps : Command → Reply → Bool
keeps c done = reads c
keeps c (refused x) = true
keeps c (listed es) = reads c

-- every byte is left; or the table is a sound one of the book b
abbrev pub Left : Bool → List ℕ → Book → List ℕ → Type 0
Left true t b t' = t' ≡ t
Left false t b t' = Holds t' b

-- a command of a tour, 42 or 43
abbrev pub tours : Command → Bool
tours (Add n l) = false
tours (Remove n) = false
tours (Move n l) = false
tours (ListOf l) = false
tours (Stand l) = false
tours Print = false
tours (Begin p) = true
tours (Corner p) = true

-- it changes no byte but those of the tour in the header
abbrev pub TourAlone : Bool → List ℕ → List ℕ → Type 0
TourAlone true t t' = Only tour_start tour_end t t'
TourAlone false t t' = Unit {0}

-- what the command does: it leaves every byte, or a sound table of the changed book; 42 and 43 write the tour alone
abbrev pub Step : List ℕ → Command → Reply → List ℕ → Type 0
Step t c y t' = Left (keeps c y) t (change c (book_of t)) t' × TourAlone (tours c) t t'

-- "table as the commands before it left it": the commands that got a record, one after the other
pub data Chain : List ℕ → List Turn → List ℕ → Type 0 where
  none : {t : List ℕ} → Chain t [] t
  next : {t t₁ t' : List ℕ} {u : Turn} {us : List Turn} → Step t u.command u.reply t₁ → Chain t₁ us t'
      → Chain t (u ∷ us) t'
