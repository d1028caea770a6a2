-- Which lent tables are taken. Document 01, "Causes and numbers", 64 and 65; document 02, C-17, 69.
-- Assumes nothing.
use Rattle.std.specs.Prelude.{◌≡◌, true, false, List, ℕ, length, ⊤, Result, Ok, Err}
use Rattle.limits.specs.Limits.{work_bytes}
use Rattle.book.specs.declared.Reason.{Reason}
use Rattle.book.specs.declared.Reason.TheVariants.{AllUsed, WrongLength, Broken, UnknownCommand}
use Rattle.book.specs.declared.Reason.TheVariants.{CutShort, NoRoom, BrokenStanding}
use Rattle.table_empty.specs.EmptyTable.{zeros}
use Rattle.table_rules.specs.Table.{Whole, StandingOk, Sound}
use Rattle.demands.specs.Batch.{lengths_ok}

-- "table or work buffer of wrong length" leaves the work buffer; a rule on layout, tree, sites or tour that is broken
-- leaves it all zero, and so does, where these are kept, a wrong standing leg or list; no other reason refuses a table
abbrev pub RefusedFor : Reason → List ℕ → List ℕ → List ℕ → Type 0
RefusedFor AllUsed t w w' = ⊥
RefusedFor WrongLength t w w' = (lengths_ok t w ≡ false) × (w' ≡ w)
RefusedFor Broken t w w' = (lengths_ok t w ≡ true) × ¬ Whole t × (w' ≡ zeros work_bytes)
RefusedFor UnknownCommand t w w' = ⊥
RefusedFor CutShort t w w' = ⊥
RefusedFor NoRoom t w w' = ⊥
RefusedFor BrokenStanding t w w' = (lengths_ok t w ≡ true) × Whole t × ¬ StandingOk t × (w' ≡ zeros work_bytes)

-- a table that is taken is sound, and both lengths are right
abbrev pub AdmittedAs : Result ⊤ Reason → List ℕ → List ℕ → List ℕ → Type 0
AdmittedAs (Ok u) t w w' = (lengths_ok t w ≡ true) × Sound t × (length w' ≡ work_bytes)
AdmittedAs (Err x) t w w' = RefusedFor x t w w'
