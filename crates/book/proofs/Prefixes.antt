-- What stands behind a command does not matter to it; and a call that comes to a command has run the bytes before it.
-- Assumes nothing.
use mathlib.Core.Path.{◌≡◌, refl, sym, ap, ◌∙◌, subst, subst⁻¹}
use mathlib.Core.Bool.{Bool, true, false, cond}
use Rattle.std.specs.Prelude.{Option, None, Some}
use mathlib.Core.List.{List, [], ◌∷◌, ◌++◌, append_assoc, append-nil}
use Prim.Native.Nat.{ℕ, zero, suc, ◌+◌, ◌*◌, ◌≤◌, ◌<◌}
use native.Mathlib.Omega.{arith}
use lib.ListN.{length, get_or, length-append, get_or-append}
use lib.Dec.{leb, ltb}
use borrow.Author.Tests.{ltb-false, leb-true, leb-false, le-ltb, lt-leb}
use Rattle.words.specs.Words.{word_at}
use Rattle.grid.specs.Coordinate.{from_word}
use Rattle.readings.specs.Location.{long_at, number_of, reading_at}
use Rattle.book.specs.declared.Command.{Command}
use Rattle.book.specs.declared.Parsed.{Parsed}
use Rattle.book.specs.declared.Parsed.TheVariants.{End, Unknown, Cut, Whole}
use Rattle.book.specs.declared.Reason.{Reason}
use Rattle.book.specs.declared.Reason.TheVariants.{AllUsed, UnknownCommand, CutShort, NoRoom}
use Rattle.book.specs.Numbers.{reason_number}
use Rattle.book.specs.declared.Shape.{Shape}
use Rattle.book.specs.declared.Shape.TheVariants.{Nothing, Number, OnePosition, NumberPosition, TwoPositions, NumberReadings}
use Rattle.book.specs.Command.{Maker, operand_bytes, position_at, leg_at, made_at, Form, form_bytes, form_of, whole, command_at, parse_at}
use Rattle.book.specs.Book.{Book}
use Rattle.book.specs.Encode.{command_bytes}
use Rattle.book.specs.Reply.{record_of}
use Rattle.book.specs.Answer.{answer, after}
use Rattle.book.specs.Run.{Turn, records, Outcome, ends, turn, run_from, run}
use Rattle.book.proofs.Parsing.{parse_next, end_parse}
use Rattle.book.proofs.Runs.{turn_of, Steps, steps_none, steps_one}
use Rattle.book.proofs.ReadBack.{Encodable, read_back}

-- ---- a whole command, with more bytes behind it

-- the finding is a whole command
abbrev IsWhole : Parsed → Type 0
IsWhole End = ⊥
IsWhole Unknown = ⊥
IsWhole Cut = ⊥
IsWhole (Whole c next) = Unit {0}

module _ (s more : List ℕ) where
  word_front : (i : ℕ) → i + 2 ≤ length s → word_at (s ++ more) i ≡ word_at s i
  unfolding word_at
  word_front i h = rw (get_or-append s more 0 i (omega arith), get_or-append s more 0 (i + 1) (omega arith)) refl

  position_front : (i : ℕ) → i + 4 ≤ length s → position_at (s ++ more) i ≡ position_at s i
  position_front i h = λ j. record { east = from_word (word_front i (omega arith) j); north = from_word (word_front (i + 2) (omega arith) j) }

  leg_front : (i : ℕ) → i + 8 ≤ length s → leg_at (s ++ more) i ≡ leg_at s i
  leg_front i h = λ j. record { s = position_front i (omega arith) j; e = position_front (i + 4) (omega arith) j }

  long_front : (i : ℕ) → i + 4 ≤ length s → long_at (s ++ more) i ≡ long_at s i
  unfolding long_at
  long_front i h = λ j. word_front i (omega arith) j + 65536 * word_front (i + 2) (omega arith) j

  reading_front : (i : ℕ) → i + 8 ≤ length s → reading_at (s ++ more) i ≡ reading_at s i
  reading_front i h =
      λ j. record { easting = number_of (long_front i (omega arith) j); northing = number_of (long_front (i + 4) (omega arith) j) }

  pub made_front : (x : Shape) (f : Maker x) (i : ℕ) → i + operand_bytes x ≤ length s → made_at x f (s ++ more) i ≡ made_at x f s i
  made_front Nothing f i h = refl
  made_front Number f i h = ap f (word_front i h)
  made_front OnePosition f i h = ap f (position_front i h)
  made_front NumberPosition f i h = λ j. f (word_front i (omega arith) j) (position_front (i + 2) (omega arith) j)
  made_front TwoPositions f i h = ap f (leg_front i h)
  made_front NumberReadings f i h = λ j. f (word_front i (omega arith) j) (reading_front (i + 2) (omega arith) j)

  -- A WHOLE COMMAND STAYS, whatever stands behind it
  pub parse_front : (at : ℕ) (d : Command) (next : ℕ) → parse_at s at ≡ Whole d next → parse_at (s ++ more) at ≡ Whole d next
  unfolding parse_at
  parse_front at d next h = go (leb (length s) at) refl h
    where
      here : (f : Form) (t : Bool) → ltb (length s) (at + form_bytes f) ≡ t
          → cond t Cut (Whole (made_at f.shape f.maker s (at + 1)) (at + form_bytes f)) ≡ Whole d next → whole (s ++ more) at f ≡ Whole d next
      here f true e x = absurd (subst⁻¹ IsWhole x tt)
      here f false e x =
          let l : at + form_bytes f ≤ length s = ltb-false (length s) (at + form_bytes f) e in
          rw (le-ltb (length (s ++ more)) (at + form_bytes f) (omega (arith, length-append s more)))
          (ap (λ (y : Command). Whole y (at + form_bytes f)) (made_front f.shape f.maker (at + 1) (omega arith)) ∙ x)

      found : (f : Option Form) → command_at s at f ≡ Whole d next → command_at (s ++ more) at f ≡ Whole d next
      found None x = x
      found (Some f) x = here f (ltb (length s) (at + form_bytes f)) refl x

      go : (t : Bool) → leb (length s) at ≡ t → cond t End (command_at s at (form_of (get_or s at 0))) ≡ Whole d next → parse_at (s ++ more) at ≡ Whole d next
      go true e x = absurd (subst⁻¹ IsWhole x tt)
      go false e x =
          let l : at < length s = leb-false (length s) at e in
          rw (lt-leb (length (s ++ more)) at (omega (arith, length-append s more)), get_or-append s more 0 at l) (found (form_of (get_or s at 0)) x)

-- ---- a call that has run the bytes before

module _ (before behind : List ℕ) (room : ℕ) (b₀ : Book) where
  -- the call stands behind the bytes before, where their own run ended
  StandsAs : Outcome → Type 0
  StandsAs o = o.reason ≡ AllUsed → Steps (before ++ behind) room b₀ (length before) o.turns o.book

  stands_from : (k at : ℕ) (past : List Turn) (b : Book) → length before < at + k → at ≤ length before
      → Steps (before ++ behind) room b₀ at past b → StandsAs (run_from k before room at past b)
  unfolding run_from turn StandsAs
  stands_from zero at past b l i g = absurd (omega arith)
  stands_from (suc k) at past b l i g = go (parse_at before at) refl (stands_from k)
    where
      go : (p : Parsed) → parse_at before at ≡ p
          → ((next : ℕ) (past' : List Turn) (b' : Book) → length before < next + k → next ≤ length before
          → Steps (before ++ behind) room b₀ next past' b' → StandsAs (run_from k before room next past' b'))
          → StandsAs (turn (run_from k before room) p room at past b)
      go End e ih r = subst (λ (j : ℕ). Steps (before ++ behind) room b₀ j past b) (let h = end_parse before at e in omega arith) g
      go Unknown e ih r = absurd (let z : ◌≡◌ {A = ℕ} 66 0 = ap reason_number r in omega arith)
      go Cut e ih r = absurd (let z : ◌≡◌ {A = ℕ} 67 0 = ap reason_number r in omega arith)
      go (Whole c next) e ih r = room? (leb (length (records past) + length (record_of (answer b c))) room) refl r
        where
          n : (at < next) × (next ≤ length before)
          n = parse_next before at c next e

          room? : (t : Bool) → leb (length (records past) + length (record_of (answer b c))) room ≡ t
              → StandsAs (cond t (run_from k before room next (past ++ (turn_of b c ∷ [])) (after b c (answer b c))) (ends NoRoom at past b))
          room? true f x =
              ih next _ _ (omega (arith, n.0)) n.1
              (steps_one (before ++ behind) room b₀ at past b g _ (sym (parse_front before behind at c next e)) c next refl (leb-true _ _ f)) x
          room? false f x = absurd (let z : ◌≡◌ {A = ℕ} 68 0 = ap reason_number x in omega arith)

  -- BEHIND THE BYTES BEFORE: where their run uses them all, a call on them and more comes to what stands behind them
  pub steps_before : (run before room b₀).reason ≡ AllUsed
      → Steps (before ++ behind) room b₀ (length before) (run before room b₀).turns (run before room b₀).book
  unfolding StandsAs
  steps_before = stands_from (suc (length before)) 0 [] b₀ (omega arith) (omega arith) (steps_none (before ++ behind) room b₀)

-- ---- what a call has done stays done

-- the turns so far are the first of all, and no fewer bytes are used
pub record Grown (used : ℕ) (past : List Turn) (o : Outcome) : Type 0 where
  pub rest : List Turn
  pub turns : o.turns ≡ past ++ rest
  pub used_more : used ≤ o.used

module _ (cs : List ℕ) (room : ℕ) where
  grown_here : (reason : Reason) (at : ℕ) (past : List Turn) (b : Book) → Grown at past (ends reason at past b)
  grown_here reason at past b = record { rest = []; turns = sym (append-nil past); used_more = omega arith }

  grown_from : (k at : ℕ) (past : List Turn) (b : Book) → Grown at past (run_from k cs room at past b)
  unfolding run_from turn
  grown_from zero at past b = grown_here AllUsed at past b
  grown_from (suc k) at past b = go (parse_at cs at) refl (grown_from k)
    where
      go : (p : Parsed) → parse_at cs at ≡ p
          → ((next : ℕ) (past' : List Turn) (b' : Book) → Grown next past' (run_from k cs room next past' b'))
          → Grown at past (turn (run_from k cs room) p room at past b)
      go End e ih = grown_here AllUsed at past b
      go Unknown e ih = grown_here UnknownCommand at past b
      go Cut e ih = grown_here CutShort at past b
      go (Whole c next) e ih = room? (leb (length (records past) + length (record_of (answer b c))) room)
        where
          room? : (t : Bool) → Grown at past (cond t (run_from k cs room next (past ++ (turn_of b c ∷ [])) (after b c (answer b c))) (ends NoRoom at past b))
          room? true =
              let g = ih next (past ++ (turn_of b c ∷ [])) (after b c (answer b c)) in
              record {
                rest = turn_of b c ∷ g.rest;
                turns = g.turns ∙ append_assoc past (turn_of b c ∷ []) g.rest;
                used_more = omega (arith, g.used_more, (parse_next cs at c next e).0);
              }
          room? false = grown_here NoRoom at past b

  pub steps_grown : (b₀ : Book) (used : ℕ) (past : List Turn) (b : Book) → Steps cs room b₀ used past b → Grown used past (run cs room b₀)
  steps_grown b₀ used past b g = subst⁻¹ (λ (o : Outcome). Grown used past o) g.same (grown_from g.turns used past b)

-- ---- a call comes to a command

module _ (before behind : List ℕ) (c : Command) (ok : Encodable c) (room : ℕ) (b₀ : Book) where
  -- THE COMMAND GETS ITS RECORD: where the bytes before are all used and there is room, whatever stands behind
  pub comes_to : (run before room b₀).reason ≡ AllUsed
      → length (records (run before room b₀).turns) + length (record_of (answer (run before room b₀).book c)) ≤ room
      → Grown (length before + length (command_bytes c)) ((run before room b₀).turns ++ (turn_of (run before room b₀).book c ∷ [])) (run (before ++ (command_bytes c ++ behind)) room b₀)
  comes_to e l =
      let g = steps_before before (command_bytes c ++ behind) room b₀ e in
      steps_grown (before ++ (command_bytes c ++ behind)) room b₀ _ _ _
      (steps_one (before ++ (command_bytes c ++ behind)) room b₀ (length before) _ _ g _ (sym (read_back before behind c ok)) c _ refl l)
