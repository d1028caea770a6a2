-- What is to be done for a command, with what was found in the table. Document 01, "Tests in order" and "The site
-- book".
-- Assumes nothing.
use Rattle.std.specs.Prelude.{◌≡◌, ◌≢◌, true, false, cond, List, ℕ, ◌<◌, length, eqb, Option, None, Some, Result, Ok, Err}
use Rattle.limits.specs.Limits.{max_sites}
use Rattle.grid.specs.declared.Site.{Site}
use Rattle.grid.specs.Position.{OnGrid, LegOnGrid}
use Rattle.readings.specs.declared.Location.{Location}
use Rattle.readings.specs.declared.Location.TheVariants.{InSteps}
use Rattle.readings.specs.Location.{finite_in, placed}
use Rattle.book.specs.declared.Command.{Command}
use Rattle.book.specs.declared.Command.TheVariants.{Add, Remove, Move, Stand, Begin, Corner}
use Rattle.book.specs.declared.Cause.{Cause}
use Rattle.book.specs.declared.Cause.TheVariants.{NumberZero, OffGrid, Held, NotHeld, Full, NoSite, NoLeg, NoTour}
use Rattle.book.specs.declared.Cause.TheVariants.{NotFinite}
use Rattle.book.specs.Proper.{NumberOk}
use Rattle.book.specs.Answer.{reads}
use Rattle.book.specs.WrittenOut.{written_out}
use Rattle.table_sites.specs.Lines.{lines_in, StandsAt, StandsNowhere}
use Rattle.table_rules.specs.Following.{Follows}
use Rattle.call_judge.specs.declared.Answer.{Answer}
use Rattle.call_judge.specs.declared.Verdict.{Verdict}
use Rattle.call_judge.specs.Judged.{Judged}

-- what a verdict, or the cause of a refusal, is answered
abbrev pub answer_of : Result Verdict Cause → Answer
answer_of (Err x) = Answer.Refused x
answer_of (Ok (Verdict.Show l k)) = Answer.Listed l 0 k
answer_of (Ok (Verdict.Insert k p)) = Answer.Done
answer_of (Ok (Verdict.Delete k n)) = Answer.Done
answer_of (Ok (Verdict.Place k p)) = Answer.Done
answer_of (Ok (Verdict.Stand l)) = Answer.Done
answer_of (Ok (Verdict.Begin p)) = Answer.Done
answer_of (Ok (Verdict.Follow l j n k)) = Answer.Listed l j k

-- a site may be inserted before record k
pub record Insertable (k : ℕ) (p : Site) (t : List ℕ) : Type 0 where
  pub nowhere : StandsNowhere k p.number (lines_in t)
  pub room : length (lines_in t) < max_sites
  pub number : NumberOk p
  pub on_grid : OnGrid p.position

-- what was found in the table
abbrev pub Findings : Result Verdict Cause → List ℕ → Type 0
Findings (Err x) t = Unit {0}
Findings (Ok (Verdict.Show l k)) t = Unit {0}
Findings (Ok (Verdict.Insert k p)) t = Insertable k p t
Findings (Ok (Verdict.Delete k n)) t = StandsAt k n (lines_in t)
Findings (Ok (Verdict.Place k p)) t = StandsAt k p.number (lines_in t) × OnGrid p.position
Findings (Ok (Verdict.Stand l)) t = LegOnGrid l
Findings (Ok (Verdict.Begin p)) t = OnGrid p
Findings (Ok (Verdict.Follow l j n k)) t = Follows l n t

-- the command that a verdict is on: any that is refused; one that changes nothing, where a list is shown; an addition
-- or a move to readings has its steps written out; else the command itself
abbrev pub IsOn : Result Verdict Cause → Command → Type 0
IsOn (Err x) c = Unit {0}
IsOn (Ok (Verdict.Show l k)) c = reads c ≡ true
IsOn (Ok (Verdict.Insert k p)) c = written_out c ≡ Add p.number (InSteps p.position)
IsOn (Ok (Verdict.Delete k n)) c = c ≡ Remove n
IsOn (Ok (Verdict.Place k p)) c = written_out c ≡ Move p.number (InSteps p.position)
IsOn (Ok (Verdict.Stand l)) c = c ≡ Stand l
IsOn (Ok (Verdict.Begin p)) c = c ≡ Begin p
IsOn (Ok (Verdict.Follow l j n k)) c = c ≡ Corner l.e

-- the verdict on the command c: its answer is the book's, and what it says of the table is so
pub record Decided (v : Result Verdict Cause) (c : Command) (t w : List ℕ) : Type 0 where
  pub judged : Judged (answer_of v) c t w
  pub found : Findings v t
  pub command : IsOn v c

-- the same, whatever stands in the row
pub record Settled (v : Result Verdict Cause) (c : Command) (t : List ℕ) : Type 0 where
  pub decided : (w : List ℕ) → Decided v c t w

-- "site number 0", then readings that are not finite, then a step off the grid: what the first tests of an addition
-- and a move refuse
abbrev pub BadFor : Cause → ℕ → Location → Type 0
BadFor NumberZero n l = n ≡ 0
BadFor NotFinite n l = (n ≢ 0) × (finite_in l ≡ false)
BadFor OffGrid n l = (n ≢ 0) × (finite_in l ≡ true) × ¬ OnGrid (placed l)
BadFor Held n l = ⊥
BadFor NotHeld n l = ⊥
BadFor Full n l = ⊥
BadFor NoSite n l = ⊥
BadFor NoLeg n l = ⊥
BadFor NoTour n l = ⊥

-- the site of an addition or a move that passes them
pub record GoodFor (s : Site) (n : ℕ) (l : Location) : Type 0 where
  pub site : s ≡ record { number = n; position = placed l }
  pub number : NumberOk s
  pub on_grid : OnGrid s.position
  pub is_finite : finite_in l ≡ true

-- and what they find
abbrev pub TestedAs : Result Site Cause → ℕ → Location → Type 0
TestedAs (Err x) n l = BadFor x n l
TestedAs (Ok s) n l = GoodFor s n l

-- how many entries are left out at the beginning of a list whose first entry names `first`, where `last` is remembered
abbrev pub passed_by : ℕ → Option ℕ → ℕ
passed_by first None = 0
passed_by first (Some last) = cond (eqb first last) 1 0
