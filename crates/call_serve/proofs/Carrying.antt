-- A verdict, carried out: the table as the book's answer demands.
-- Assumes nothing.
use mathlib.Core.Path.{◌≡◌, ap, subst, subst⁻¹, ◌∙◌}
use mathlib.Core.Bool.{Bool, true, false}
use mathlib.Core.List.{List}
use Rattle.std.specs.Prelude.{Result, Ok, Err}
use Prim.Native.Nat.{ℕ, ◌+◌, ◌≤◌, ◌<◌}
use native.Mathlib.Omega.{arith}
use lib.ListN.{length}
use Rattle.limits.specs.Limits.{max_sites}
use Rattle.words.specs.Words.{Only}
use Rattle.words.proofs.Frame.{only_refl}
use Rattle.grid.specs.declared.Position.{Position}
use Rattle.grid.specs.declared.Site.{Site}
use Rattle.grid.specs.declared.Leg.{Leg}
use Rattle.grid.specs.Position.{OnGrid, LegOnGrid}
use Rattle.split.specs.SplitList.{Entry}
use Rattle.records.specs.Bytes.{write}
use Rattle.list_row.specs.Entries.{entries_from}
use Rattle.readings.specs.declared.Location.TheVariants.{InSteps}
use Rattle.book.specs.WrittenOut.{written_out}
use Rattle.book.specs.declared.Cause.{Cause}
use Rattle.book.specs.declared.Command.{Command}
use Rattle.book.specs.declared.Command.TheVariants.{Add, Remove, Move, List as ListOf, Stand, Print, Begin, Corner}
use Rattle.book.specs.Book.{change}
use Rattle.book.specs.Proper.{NumberOk}
use Rattle.book.specs.Reply.{Reply, done, listed, record_of, record_size}
use Rattle.book.specs.Answer.{answer}
use Rattle.table_sites.specs.Lines.{lines_in, StandsAt, StandsNowhere}
use Rattle.table_header.specs.Layout.{tour_start, tour_end}
use Rattle.table_rules.specs.Table.{book_of}
use Rattle.table_rules.specs.Following.{Follows}
use Rattle.demands.specs.Step.{Holds, Left, tours, TourAlone, Step}
use Rattle.call_judge.specs.declared.Answer.{Answer}
use Rattle.call_judge.specs.declared.Verdict.{Verdict}
use Rattle.call_judge.specs.Judged.{reply_of, RowOk}
use Rattle.call_judge.specs.Verdict.{answer_of, Insertable, Findings, Decided}
use Rattle.call_serve.specs.Serving.{Carried, Obeyed}

-- ---- the record

module _ (v : Result Verdict Cause) (a : Answer) (t w : List ℕ) (ha : a ≡ answer_of v) where
  pub put_row : RowOk (answer_of v) t w → RowOk a t w
  put_row r = subst⁻¹ (λ (y : Answer). RowOk y t w) ha r

  pub put_fits : (at n : ℕ) → at + record_size (reply_of (answer_of v) t w) ≤ n → at + record_size (reply_of a t w) ≤ n
  put_fits at n h = omega (arith, h, ap (λ (y : Answer). record_size (reply_of y t w)) ha)

  pub obeyed : (t' rep rep' : List ℕ) (at : ℕ) → rep' ≡ write rep at (record_of (reply_of a t w)) → Carried v t t' → Obeyed v t w t' rep at rep'
  obeyed t' rep rep' at p h = record { carried = h; report = p ∙ ap (λ (y : Answer). write rep at (record_of (reply_of y t w))) ha }

-- what a decided verdict says of the table and of its row
pub decided_found : (v : Result Verdict Cause) (c : Command) (t w : List ℕ) → Decided v c t w → Findings v t
decided_found v c t w d = d.found

pub decided_row : (v : Result Verdict Cause) (c : Command) (t w : List ℕ) → Decided v c t w → RowOk (answer_of v) t w
decided_row v c t w d = d.judged.row

-- ---- each verdict

module _ (t t' : List ℕ) (v : Result Verdict Cause) where
  pub refused_left : (x : Cause) → v ≡ Err x → Carried v t t
  refused_left x e = subst⁻¹ (λ (y : Result Verdict Cause). Carried y t t) e (λ i. t)

  pub shown_left : (l : Leg) (k : ℕ) → v ≡ Ok (Verdict.Show l k) → Carried v t t
  shown_left l k e = subst⁻¹ (λ (y : Result Verdict Cause). Carried y t t) e (λ i. t)

  module _ (k : ℕ) (p : Site) (e : v ≡ Ok (Verdict.Insert k p)) where
    insertable : Findings v t → Insertable k p t
    insertable f = subst (λ (y : Result Verdict Cause). Findings y t) e f

    pub insert_nowhere : Findings v t → StandsNowhere k p.number (lines_in t)
    insert_nowhere f = (insertable f).nowhere

    pub insert_room : Findings v t → length (lines_in t) < max_sites
    insert_room f = (insertable f).room

    pub insert_number : Findings v t → NumberOk p
    insert_number f = (insertable f).number

    pub insert_grid : Findings v t → OnGrid p.position
    insert_grid f = (insertable f).on_grid

    pub inserted : Holds t' (change (Add p.number (InSteps p.position)) (book_of t)) → Carried v t t'
    inserted h = subst⁻¹ (λ (y : Result Verdict Cause). Carried y t t') e h

  module _ (k n : ℕ) (e : v ≡ Ok (Verdict.Delete k n)) where
    pub delete_at : Findings v t → StandsAt k n (lines_in t)
    delete_at f = subst (λ (y : Result Verdict Cause). Findings y t) e f

    pub deleted : Holds t' (change (Remove n) (book_of t)) → Carried v t t'
    deleted h = subst⁻¹ (λ (y : Result Verdict Cause). Carried y t t') e h

  module _ (k : ℕ) (p : Site) (e : v ≡ Ok (Verdict.Place k p)) where
    pub place_at_lem : Findings v t → StandsAt k p.number (lines_in t)
    place_at_lem f = (subst (λ (y : Result Verdict Cause). Findings y t) e f).0

    pub place_grid : Findings v t → OnGrid p.position
    place_grid f = (subst (λ (y : Result Verdict Cause). Findings y t) e f).1

    pub placed : Holds t' (change (Move p.number (InSteps p.position)) (book_of t)) → Carried v t t'
    placed h = subst⁻¹ (λ (y : Result Verdict Cause). Carried y t t') e h

  module _ (l : Leg) (e : v ≡ Ok (Verdict.Stand l)) where
    pub stand_grid : Findings v t → LegOnGrid l
    stand_grid f = subst (λ (y : Result Verdict Cause). Findings y t) e f

    pub stood : Holds t' (change (Stand l) (book_of t)) → Carried v t t'
    stood h = subst⁻¹ (λ (y : Result Verdict Cause). Carried y t t') e h

  module _ (p : Position) (e : v ≡ Ok (Verdict.Begin p)) where
    pub begin_grid : Findings v t → OnGrid p
    begin_grid f = subst (λ (y : Result Verdict Cause). Findings y t) e f

    pub begun : Holds t' (change (Begin p) (book_of t)) × Only tour_start tour_end t t' → Carried v t t'
    begun h = subst⁻¹ (λ (y : Result Verdict Cause). Carried y t t') e h

  module _ (l : Leg) (j n k : ℕ) (e : v ≡ Ok (Verdict.Follow l j n k)) where
    pub follow_found : Findings v t → Follows l n t
    follow_found f = subst (λ (y : Result Verdict Cause). Findings y t) e f

    pub followed : Holds t' (change (Corner l.e) (book_of t)) × Only tour_start tour_end t t' → Carried v t t'
    followed h = subst⁻¹ (λ (y : Result Verdict Cause). Carried y t t') e h

-- ---- the book's step

module _ (c : Command) (t w t' : List ℕ) where
  -- an accepted command that changes the table
  accepted_step : (d : Command) → c ≡ d → done ≡ answer (book_of t) c → Step t d done t' → Step t c (answer (book_of t) c) t'
  accepted_step d e a s = subst (λ (y : Reply). Step t c y t') a (subst⁻¹ (λ (x : Command). Step t x done t') e s)

  -- one to receiver readings, which does what it does with the steps written out
  written_kept : (x : Command) → Step t (written_out x) done t' → Step t x done t'
  unfolding change
  written_kept (Add n l) h = h
  written_kept (Remove n) h = h
  written_kept (Move n l) h = h
  written_kept (ListOf l) h = h
  written_kept (Stand l) h = h
  written_kept Print h = h
  written_kept (Begin p) h = h
  written_kept (Corner p) h = h

  written_step : (d : Command) → written_out c ≡ d → done ≡ answer (book_of t) c → Step t d done t' → Step t c (answer (book_of t) c) t'
  written_step d e a s = subst (λ (y : Reply). Step t c y t') a (written_kept c (subst⁻¹ (λ (x : Command). Step t x done t') e s))

  -- a 43 that is answered by a list, and goes on with the tour
  listed_step : (p : Position) → c ≡ Corner p → (es : List Entry) → listed es ≡ answer (book_of t) c
      → Holds t' (change (Corner p) (book_of t)) × Only tour_start tour_end t t' → Step t c (answer (book_of t) c) t'
  listed_step p e es a s = subst (λ (y : Reply). Step t c y t') a (subst⁻¹ (λ (x : Command). Step t x (listed es) t') e s)

  -- a table that is left
  left_alone : t' ≡ t → TourAlone (tours c) t t'
  left_alone e = go (tours c)
    where
      go : (q : Bool) → TourAlone q t t'
      go true = rw e only_refl
      go false = tt

  -- A VERDICT DOES WHAT THE BOOK'S ANSWER DEMANDS
  pub carried_step : (v : Result Verdict Cause) → Decided v c t w → Carried v t t' → Step t c (answer (book_of t) c) t'
  carried_step (Err x) d h = subst (λ (y : Reply). Step t c y t') d.judged.said (h, left_alone h)
  carried_step (Ok (Verdict.Show l k)) d h =
      subst (λ (y : Reply). Step t c y t') d.judged.said (subst⁻¹ (λ (q : Bool). Left q t (change c (book_of t)) t') d.command h, left_alone h)
  carried_step (Ok (Verdict.Insert k p)) d h = written_step (Add p.number (InSteps p.position)) d.command d.judged.said (h, tt)
  carried_step (Ok (Verdict.Delete k n)) d h = accepted_step (Remove n) d.command d.judged.said (h, tt)
  carried_step (Ok (Verdict.Place k p)) d h = written_step (Move p.number (InSteps p.position)) d.command d.judged.said (h, tt)
  carried_step (Ok (Verdict.Stand l)) d h = accepted_step (Stand l) d.command d.judged.said (h, tt)
  carried_step (Ok (Verdict.Begin p)) d h = accepted_step (Begin p) d.command d.judged.said h
  carried_step (Ok (Verdict.Follow l j n k)) d h = listed_step l.e d.command (entries_from l t w j k) d.judged.said h
