-- The calls with receiver readings: the theorems over whole lists of calls, cited for them.
-- Assumes nothing.
use mathlib.Core.Path.{◌≡◌, refl, sym, ap, ◌∙◌, subst, subst⁻¹}
use mathlib.Core.List.{List, [], ◌∷◌, ◌++◌, map}
use Prim.Native.Nat.{ℕ}
use native.Mathlib.Decide.{dec_le, dec_lt}
use lib.ListN.{length, take, drop}
use lib.Ieee.{of_bits}
use Rattle.limits.specs.Limits.{table_bytes, work_bytes}
use Rattle.words.specs.Words.{word_at}
use Rattle.grid.specs.Position.{squared_difference, distance}
use Rattle.grid.specs.Coordinate.{from_word, to_word}
use Rattle.grid.specs.Side.{on_the_right?}
use Rattle.grid.specs.Fraction.{gcd_by, gcd_of, lowest}
use Rattle.readings.specs.Reading.{metre, nearest_step, step_word, word_of}
use Rattle.readings.specs.Location.{coordinate_in, long_at, number_of}
use Rattle.split.specs.SplitList.{rank}
use Rattle.split.specs.SplitOf.{hides?, right_below?, under?, push, insert, build, split_of}
use Rattle.records.specs.ListRecord.{entry_bytes, list_bytes, record_bytes}
use Rattle.book.specs.declared.Reason.{Reason}
use Rattle.book.specs.Numbers.{reason_number}
use Rattle.book.specs.Book.{empty_book, write_line, strike_line, move_line, holds, change}
use Rattle.book.specs.Command.{form_of, parse_at}
use Rattle.book.specs.Answer.{answer}
use Rattle.book.specs.Run.{records, turn, run_from}
use Rattle.book.specs.WrittenOut.{written_in, written_bytes, FiniteIn, AllFinite}
use Rattle.demands.specs.Batch.{LaidOut}
use Rattle.demands.specs.Whole.{Call, Made, Said, said, Ask, asked, Ran, replies, replies_asking, book_after}
use Rattle.demands.specs.Whole.Made.{none as no_call, next}
use Rattle.demands.specs.InSteps.{written_ask, said_written, AskedInSteps, AnsweredInSteps}
use Rattle.demands.proofs.WholeRun.{laid_holds, alike}
use Rattle.demands.proofs.Demand1.{demand1_laid}
use Rattle.demands.proofs.Demand3.{demand3}
use Rattle.demands.proofs.InSteps.{in_steps_lem, rest_written}
use Rattle.replay.specs.declared.Heard.{Heard}
use Rattle.replay.specs.declared.survey.Rest.{Rest}
use Rattle.replay.specs.declared.survey.Readings.{Readings}
use Rattle.replay.specs.declared.survey.Refusals.{Refusals}
use Rattle.replay.specs.declared.survey.Badly.{Badly}
use Rattle.replay.specs.Replayed.{ask, Called, reply, ten_bytes}
use Rattle.replay.specs.Surveys.{survey, move_one, add_beyond, list_cut, steps, move_one_steps, add_beyond_steps, list_cut_steps}
use Rattle.replay.specs.Surveys.{add_zero, add_infinite, add_held, move_zero, move_infinite, move_absent, refused_so}
use Rattle.replay.specs.Surveys.{said_badly, Begun, GoneOn, Run, NotTaken, BothNotTaken, SurveyTold}
use Rattle.replay.proofs.Citing.{called_said}

-- ---- computed by the checker

-- the same commands with the steps written out
written_first : written_bytes survey ≡ steps
unfolding written_in parse_at form_of word_at long_at word_of step_word nearest_step metre
written_first = refl

written_second : written_bytes move_one ≡ move_one_steps
unfolding written_in parse_at form_of word_at long_at word_of step_word nearest_step metre
written_second = refl

written_beyond : written_bytes add_beyond ≡ add_beyond_steps
unfolding written_in parse_at form_of word_at long_at word_of step_word nearest_step metre
written_beyond = refl

written_third : written_bytes list_cut ≡ list_cut_steps
unfolding written_in parse_at form_of word_at long_at word_of step_word nearest_step metre
written_third = refl

-- the readings are finite
finite_first : AllFinite survey
unfolding FiniteIn parse_at form_of word_at long_at
finite_first = (refl, (refl, tt))

finite_second : AllFinite move_one
unfolding FiniteIn parse_at form_of word_at long_at
finite_second = (refl, tt)

finite_beyond : AllFinite add_beyond
unfolding FiniteIn parse_at form_of word_at long_at
finite_beyond = (refl, tt)

finite_third : AllFinite list_cut
unfolding FiniteIn parse_at form_of word_at long_at
finite_third = (refl, (refl, tt))

-- the bytes used, written out
first_long : length (written_bytes (take 11 survey)) ≡ 7
unfolding written_in parse_at form_of word_at long_at word_of step_word nearest_step metre
first_long = refl

second_long : length (written_bytes (take 11 move_one)) ≡ 7
unfolding written_in parse_at form_of word_at long_at word_of step_word nearest_step metre
second_long = refl

beyond_long : length (written_bytes (take 11 add_beyond)) ≡ 7
unfolding written_in parse_at form_of word_at long_at word_of step_word nearest_step metre
beyond_long = refl

third_long : length (written_bytes (take 16 list_cut)) ≡ 16
unfolding written_in parse_at form_of word_at long_at word_of step_word nearest_step metre
third_long = refl

-- what the book says to the readings
survey_asks : List Ask
survey_asks =
    ask work_bytes survey 2 ∷ ask work_bytes move_one 2 ∷ ask work_bytes add_beyond 2 ∷ ask work_bytes list_cut 24
    ∷ ask work_bytes add_zero 2 ∷ ask work_bytes add_infinite 2 ∷ ask work_bytes add_held 2
    ∷ ask work_bytes move_zero 2 ∷ ask work_bytes move_infinite 2 ∷ ask work_bytes move_absent 2 ∷ []

survey_said : List Said
survey_said =
    reply 68 11 (0x2B ∷ []) ∷ reply 0 11 (0x2B ∷ []) ∷ reply 66 11 (0x21 ∷ 2 ∷ []) ∷ reply 67 16 (0x2B ∷ ten_bytes)
    ∷ refused_so ++ refused_so

survey_replies : replies empty_book survey_asks ≡ survey_said
unfolding survey_asks survey_said replies_asking book_after records turn run_from parse_at form_of word_at long_at number_of of_bits coordinate_in step_word nearest_step from_word to_word answer holds change write_line strike_line move_line split_of build insert push hides? under? right_below? dec_le dec_lt distance squared_difference rank on_the_right? lowest gcd_of gcd_by entry_bytes list_bytes record_bytes
survey_replies = refl

-- the first of what was said, and the rest
abbrev first_of : List Said → Said
first_of [] = reply 0 0 []
first_of (y ∷ ys) = y

abbrev rest_of : List Said → List Said
rest_of [] = []
rest_of (y ∷ ys) = ys

-- ---- the calls

pub survey_begun : (cs : List ℕ) (t t₁ : List ℕ) (x : Reason) → LaidOut t (reason_number x) t₁ → length t ≡ table_bytes → (t₂ : List ℕ) (a : Heard 2)
    → Called (ask work_bytes cs 2) a.result t₁ t₂ a.report → Begun cs a t₂
survey_begun cs t t₁ x l e t₂ a c =
    record { before = t; table = t₁; laid = subst (λ (n : ℕ). LaidOut t n t₁) ((demand1_laid t (reason_number x) t₁ l).laid e).0 l; called = c }

pub survey_went_on : (cs ds es t t₁ t₂ t₃ : List ℕ) (a b : Heard 2) (c : Heard 24) → Called (ask work_bytes cs 2) a.result t t₁ a.report
    → Called (ask work_bytes ds 2) b.result t₁ t₂ b.report → Called (ask work_bytes es 24) c.result t₂ t₃ c.report
    → GoneOn cs ds es (record { used = a; unknown = b; cut = c }) t t₃
survey_went_on cs ds es t t₁ t₂ t₃ a b c p q r = record { second = t₁; third = t₂; used = p; unknown = q; cut = r }

pub survey_ran : (bs cs ds es t t' : List ℕ) (a : Heard 2) (r : Rest) → Begun bs a t → GoneOn cs ds es r t t' → Run bs cs ds es (record { full = a; rest = r }) t'
survey_ran bs cs ds es t t' a r p q = record { after = t; begun = p; on = q }

pub survey_not_taken : (cs ds es t t₁ t₂ t₃ : List ℕ) (a b c : Heard 2) → Called (ask work_bytes cs 2) a.result t t₁ a.report
    → Called (ask work_bytes ds 2) b.result t₁ t₂ b.report → Called (ask work_bytes es 2) c.result t₂ t₃ c.report
    → NotTaken cs ds es (record { zero = a; infinite = b; beyond = c }) t t₃
survey_not_taken cs ds es t t₁ t₂ t₃ a b c p q r = record { second = t₁; third = t₂; zero = p; infinite = q; beyond = r }

-- the calls of refusals, and what they said
module _ (cs ds es : List ℕ) (r : Refusals) (t t' : List ℕ) (h : NotTaken cs ds es r t t') where
  badly : List Call
  badly = h.zero.call ∷ h.infinite.call ∷ h.beyond.call ∷ []

  badly_made : Made t badly t'
  unfolding badly
  badly_made = next h.zero.made (next h.infinite.made (next h.beyond.made no_call))

  badly_asked : map asked badly ≡ ask work_bytes cs 2 ∷ ask work_bytes ds 2 ∷ ask work_bytes es 2 ∷ []
  unfolding badly
  badly_asked = λ i. h.zero.asked_so i ∷ h.infinite.asked_so i ∷ h.beyond.asked_so i ∷ []

  badly_said : map said badly ≡ said_badly r
  unfolding badly
  badly_said = λ i. called_said _ r.zero _ _ h.zero i ∷ called_said _ r.infinite _ _ h.infinite i ∷ called_said _ r.beyond _ _ h.beyond i ∷ []

module _ (m s : Readings) (v w : Badly) (t₁ t₂ u₁ u₂ : List ℕ) (k : Run survey move_one add_beyond list_cut m t₁)
    (l : Run steps move_one_steps add_beyond_steps list_cut_steps s u₁) (f : BothNotTaken v t₁ t₂) (g : BothNotTaken w u₁ u₂) where
  abbrev a : Begun survey m.full k.after
  a = k.begun

  abbrev b : GoneOn move_one add_beyond list_cut m.rest k.after t₁
  b = k.on

  abbrev c : Begun steps s.full l.after
  c = l.begun

  abbrev d : GoneOn move_one_steps add_beyond_steps list_cut_steps s.rest l.after u₁
  d = l.on

  surveyed : List Call
  surveyed = a.called.call ∷ b.used.call ∷ b.unknown.call ∷ b.cut.call ∷ []

  stepped : List Call
  stepped = c.called.call ∷ d.used.call ∷ d.unknown.call ∷ d.cut.call ∷ []

  all : List Call
  all =
      a.called.call ∷ b.used.call ∷ b.unknown.call ∷ b.cut.call
      ∷ f.adds.zero.call ∷ f.adds.infinite.call ∷ f.adds.beyond.call
      ∷ f.moves.zero.call ∷ f.moves.infinite.call ∷ f.moves.beyond.call ∷ []

  ran : Ran all t₂
  unfolding all
  ran =
      record {
        before = a.before;
        laid_table = a.table;
        laid = a.laid;
        made =
            next a.called.made (next b.used.made (next b.unknown.made (next b.cut.made
            (next f.adds.zero.made (next f.adds.infinite.made (next f.adds.beyond.made
            (next f.moves.zero.made (next f.moves.infinite.made (next f.moves.beyond.made no_call)))))))));
      }

  told : map said all ≡ survey_said
  unfolding all survey_asks
  told =
      (demand3 all t₂ ran).answers
      ∙ ap (replies empty_book)
      (λ i. a.called.asked_so i ∷ b.used.asked_so i ∷ b.unknown.asked_so i ∷ b.cut.asked_so i
      ∷ f.adds.zero.asked_so i ∷ f.adds.infinite.asked_so i ∷ f.adds.beyond.asked_so i
      ∷ f.moves.zero.asked_so i ∷ f.moves.infinite.asked_so i ∷ f.moves.beyond.asked_so i ∷ [])
      ∙ survey_replies

  -- the promise of C-15
  promised : AskedInSteps a.table c.table surveyed stepped t₁ u₁
  unfolding surveyed stepped
  promised =
      let p = laid_holds a.before a.table a.laid in
      let q = laid_holds c.before c.table c.laid in
      record {
        sound = (p.sound, q.sound);
        book = p.book ∙ sym q.book;
        made = (
          next a.called.made (next b.used.made (next b.unknown.made (next b.cut.made no_call))),
          next c.called.made (next d.used.made (next d.unknown.made (next d.cut.made no_call))),
        );
        all_finite = (
          subst⁻¹ AllFinite (ap (λ (h : Ask). h.commands) a.called.asked_so) finite_first,
          (
            subst⁻¹ AllFinite (ap (λ (h : Ask). h.commands) b.used.asked_so) finite_second,
            (
              subst⁻¹ AllFinite (ap (λ (h : Ask). h.commands) b.unknown.asked_so) finite_beyond,
              (subst⁻¹ AllFinite (ap (λ (h : Ask). h.commands) b.cut.asked_so) finite_third, tt),
            ),
          ),
        );
        asked_written =
            (λ i. c.called.asked_so i ∷ d.used.asked_so i ∷ d.unknown.asked_so i ∷ d.cut.asked_so i ∷ [])
            ∙ (λ i. ask work_bytes (sym written_first i) 2 ∷ ask work_bytes (sym written_second i) 2 ∷ ask work_bytes (sym written_beyond i) 2
            ∷ ask work_bytes (sym written_third i) 24 ∷ [])
            ∙ sym (λ i. written_ask (a.called.asked_so i) ∷ written_ask (b.used.asked_so i) ∷ written_ask (b.unknown.asked_so i) ∷ written_ask (b.cut.asked_so i) ∷ []);
      }

  promise : AnsweredInSteps surveyed stepped t₁ u₁
  promise = in_steps_lem a.table c.table surveyed stepped t₁ u₁ promised

  -- of the first call alone
  first_alone : AskedInSteps a.table c.table (a.called.call ∷ []) (c.called.call ∷ []) k.after l.after
  unfolding surveyed stepped
  first_alone =
      let p = promised in
      record {
        sound = p.sound;
        book = p.book;
        made = (next a.called.made no_call, next c.called.made no_call);
        all_finite = (p.all_finite.0, tt);
        asked_written = (λ i. c.called.asked_so i ∷ []) ∙ (λ i. ask work_bytes (sym written_first i) 2 ∷ []) ∙ sym (λ i. written_ask (a.called.asked_so i) ∷ []);
      }

  -- what was said to the readings
  full_said : said a.called.call ≡ reply 68 11 (0x2B ∷ [])
  unfolding all survey_said
  full_said = ap (λ (z : List Said). first_of z) told

  used_said : said b.used.call ≡ reply 0 11 (0x2B ∷ [])
  unfolding all survey_said
  used_said = ap (λ (z : List Said). first_of (rest_of z)) told

  unknown_said : said b.unknown.call ≡ reply 66 11 (0x21 ∷ 2 ∷ [])
  unfolding all survey_said
  unknown_said = ap (λ (z : List Said). first_of (rest_of (rest_of z))) told

  cut_said : said b.cut.call ≡ reply 67 16 (0x2B ∷ ten_bytes)
  unfolding all survey_said
  cut_said = ap (λ (z : List Said). first_of (rest_of (rest_of (rest_of z)))) told

  adds_said : said f.adds.zero.call ∷ said f.adds.infinite.call ∷ said f.adds.beyond.call ∷ [] ≡ refused_so
  unfolding all survey_said
  adds_said = ap (λ (z : List Said). take 3 (drop 4 z)) told

  moves_said : said f.moves.zero.call ∷ said f.moves.infinite.call ∷ said f.moves.beyond.call ∷ [] ≡ refused_so
  unfolding all survey_said
  moves_said = ap (λ (z : List Said). drop 7 z) told

  -- what the promise makes of it
  in_steps_said : (h : Call) (cs : List ℕ) (z : Said) (n : ℕ) → h.commands ≡ cs → said h ≡ z → length (written_bytes (take z.used cs)) ≡ n
      → said_written h ≡ record { reason = z.reason; used = n; written = z.written; bytes = z.bytes }
  in_steps_said h cs z n e q j =
      (λ i. record { reason = (q i).reason; used = length (written_bytes (take (q i).used (e i))); written = (q i).written; bytes = (q i).bytes })
      ∙ (λ i. record { reason = z.reason; used = j i; written = z.written; bytes = z.bytes })

  -- THE CALLS
  pub survey_told : SurveyTold (record { metres = m; steps = s; refused = v; alike = w })
  unfolding surveyed stepped badly
  survey_told =
      record {
        full = sym (called_said _ m.full _ _ a.called) ∙ full_said;
        used = sym (called_said _ m.rest.used _ _ b.used) ∙ used_said;
        unknown = sym (called_said _ m.rest.unknown _ _ b.unknown) ∙ unknown_said;
        cut = sym (called_said _ m.rest.cut _ _ b.cut) ∙ cut_said;
        full_steps =
            sym (called_said _ s.full _ _ c.called) ∙ ap (λ (z : List Said). first_of z) promise.said_as_written
            ∙ in_steps_said a.called.call survey (reply 68 11 (0x2B ∷ [])) 7 (ap (λ (h : Ask). h.commands) a.called.asked_so) full_said first_long;
        used_steps =
            sym (called_said _ s.rest.used _ _ d.used) ∙ ap (λ (z : List Said). first_of (rest_of z)) promise.said_as_written
            ∙ in_steps_said b.used.call move_one (reply 0 11 (0x2B ∷ [])) 7 (ap (λ (h : Ask). h.commands) b.used.asked_so) used_said second_long;
        unknown_steps =
            sym (called_said _ s.rest.unknown _ _ d.unknown) ∙ ap (λ (z : List Said). first_of (rest_of (rest_of z))) promise.said_as_written
            ∙ in_steps_said b.unknown.call add_beyond (reply 66 11 (0x21 ∷ 2 ∷ [])) 7 (ap (λ (h : Ask). h.commands) b.unknown.asked_so) unknown_said beyond_long;
        cut_steps =
            sym (called_said _ s.rest.cut _ _ d.cut) ∙ ap (λ (z : List Said). first_of (rest_of (rest_of (rest_of z)))) promise.said_as_written
            ∙ in_steps_said b.cut.call list_cut (reply 67 16 (0x2B ∷ ten_bytes)) 16 (ap (λ (h : Ask). h.commands) b.cut.asked_so) cut_said third_long;
        left =
            sym (λ i. drop (c.called.result i).used (c.called.asked_so i).commands)
            ∙ rest_written a.table c.table a.called.call c.called.call k.after l.after first_alone
            ∙ (λ i. written_bytes (drop (a.called.result i).used (a.called.asked_so i).commands));
        adds = sym (badly_said add_zero add_infinite add_held v.adds t₁ f.between f.adds) ∙ adds_said;
        moves = sym (badly_said move_zero move_infinite move_absent v.moves f.between t₂ f.moves) ∙ moves_said;
        alike =
            sym (badly_said add_zero add_infinite add_held w.adds u₁ g.between g.adds)
            ∙ (alike u₁ t₁ (badly add_zero add_infinite add_held w.adds u₁ g.between g.adds) (badly add_zero add_infinite add_held v.adds t₁ f.between f.adds)
            g.between f.between
            (record {
              sound = (promise.sound.1, promise.sound.0);
              book = sym promise.book;
              made = (
                badly_made add_zero add_infinite add_held w.adds u₁ g.between g.adds,
                badly_made add_zero add_infinite add_held v.adds t₁ f.between f.adds,
              );
              asked_same =
                  badly_asked add_zero add_infinite add_held w.adds u₁ g.between g.adds
                  ∙ sym (badly_asked add_zero add_infinite add_held v.adds t₁ f.between f.adds);
            })).said_same
            ∙ badly_said add_zero add_infinite add_held v.adds t₁ f.between f.adds;
      }
