-- A call on the book: how it ends, what its turns are, and the laws of a loop that takes the turns one by one.
-- Assumes nothing.
use mathlib.Core.Path.{◌≡◌, refl, sym, ap, ◌∙◌, subst}
use mathlib.Core.Logic.{◌≢◌, ◌⊎◌, inl, inr}
use mathlib.Core.Bool.{Bool, true, false, cond}
use mathlib.Core.List.{List, [], ◌∷◌, ◌++◌, append_assoc, append-nil}
use Prim.Native.Nat.{ℕ, zero, suc, ◌+◌, ◌-◌, ◌≤◌, ◌<◌}
use native.Mathlib.Omega.{arith}
use lib.ListN.{length, length-append}
use lib.Dec.{eqb, leb}
use borrow.Author.Tests.{le-leb, lt-leb, leb-true, leb-false, eq-eqb, ne_eqb}
use Rattle.book.specs.declared.Command.{Command}
use Rattle.book.specs.declared.Parsed.{Parsed}
use Rattle.book.specs.declared.Parsed.TheVariants.{End, Unknown, Cut, Whole}
use Rattle.book.specs.declared.Reason.{Reason}
use Rattle.book.specs.declared.Reason.TheVariants.{AllUsed, WrongLength, Broken, UnknownCommand, CutShort, NoRoom, BrokenStanding}
use Rattle.book.specs.Command.{parse_at}
use Rattle.book.specs.Book.{Book}
use Rattle.book.specs.Reply.{record_of}
use Rattle.book.specs.Answer.{answer, after}
use Rattle.book.specs.Run.{Turn, records, Outcome, ends, turn, run_from, run, call, after_all, StopsFor}
use Rattle.book.proofs.Parsing.{parse_next, end_parse, unknown_parse, cut_parse}

-- ---- records and books, over turns

-- the records of turns behind each other
pub records_append : (ts us : List Turn) → records (ts ++ us) ≡ records ts ++ records us
unfolding records
records_append [] us = refl
records_append (t ∷ ts) us = ap (λ (y : List ℕ). record_of t.reply ++ y) (records_append ts us) ∙ sym (append_assoc (record_of t.reply) (records ts) (records us))

-- one turn's
pub records_one : (t : Turn) → records (t ∷ []) ≡ record_of t.reply
unfolding records
records_one t = append-nil (record_of t.reply)

-- their length, with one turn more
pub records_more : (ts : List Turn) (t : Turn) → length (records (ts ++ (t ∷ []))) ≡ length (records ts) + length (record_of t.reply)
records_more ts t = ap length (records_append ts (t ∷ [])) ∙ length-append (records ts) (records (t ∷ [])) ∙ ap (λ (y : List ℕ). length (records ts) + length y) (records_one t)

-- the turn of a command on a book
abbrev pub turn_of : Book → Command → Turn
turn_of b c = record { command = c; reply = answer b c }

-- the book after turns and then more of them
pub after_append : (b : Book) (ts us : List Turn) → after_all b (ts ++ us) ≡ after_all (after_all b ts) us
after_append b [] us = refl
after_append b (t ∷ ts) us = after_append (after b t.command t.reply) ts us

-- each reply is the answer of the book then
abbrev pub Answered : Book → List Turn → Type 0
Answered b [] = Unit {0}
Answered b (t ∷ ts) = (t.reply ≡ answer b t.command) × Answered (after b t.command t.reply) ts

-- one reply more
pub answered_more : (b : Book) (ts : List Turn) (t : Turn) → Answered b ts → t.reply ≡ answer (after_all b ts) t.command → Answered b (ts ++ (t ∷ []))
answered_more b [] t a h = (h, tt)
answered_more b (u ∷ ts) t a h = (a.0, answered_more (after b u.command u.reply) ts t a.1 h)

-- each one of them
pub answered_at : (b : Book) (ts : List Turn) (t : Turn) (us : List Turn) → Answered b (ts ++ (t ∷ us)) → t.reply ≡ answer (after_all b ts) t.command
answered_at b [] t us a = a.0
answered_at b (u ∷ ts) t us a = answered_at (after b u.command u.reply) ts t us a.1

-- ---- how a call ends

-- 68 LEAVES THE BOOK: lines, leg, corner and tour
pub full_leaves : (on : ℕ → List Turn → Book → Outcome) (c : Command) (next room at : ℕ) (past : List Turn) (b : Book)
    → room < length (records past) + length (record_of (answer b c)) → (turn on (Whole c next) room at past b).book ≡ b
unfolding turn
full_leaves on c next room at past b l = rw (lt-leb (length (records past) + length (record_of (answer b c))) room l) refl

-- an outcome of the commands cs on the book b, with so much room
pub record Ended (cs : List ℕ) (room : ℕ) (b : Book) (o : Outcome) : Type 0 where
  pub fits : length (records o.turns) ≤ room
  pub inside : o.used ≤ length cs
  pub stops : StopsFor cs room o.reason o.used o.turns o.book
  pub book : o.book ≡ after_all b o.turns
  pub answered : Answered b o.turns

module _ (cs : List ℕ) (room : ℕ) (b₀ : Book) where
  -- where a call stands: the turns so far, and the book then
  record Standing (at : ℕ) (past : List Turn) (b : Book) : Type 0 where
    fits : length (records past) ≤ room
    inside : at ≤ length cs
    book : b ≡ after_all b₀ past
    answered : Answered b₀ past

  ended : (at : ℕ) (past : List Turn) (b : Book) → Standing at past b → (reason : Reason) → StopsFor cs room reason at past b → Ended cs room b₀ (ends reason at past b)
  ended at past b h reason s = record { fits = h.fits; inside = h.inside; stops = s; book = h.book; answered = h.answered }

  onward : (at : ℕ) (past : List Turn) (b : Book) → Standing at past b → (c : Command) (next : ℕ) → next ≤ length cs → length (records past) + length (record_of (answer b c)) ≤ room
      → Standing next (past ++ (turn_of b c ∷ [])) (after b c (answer b c))
  onward at past b h c next l f =
      record {
        fits = rw records_more f;
        inside = l;
        book = ap (λ (y : Book). after y c (answer b c)) h.book ∙ sym (after_append b₀ past (turn_of b c ∷ []));
        answered = answered_more b₀ past (turn_of b c) h.answered (ap (λ (y : Book). answer y c) h.book);
      }

  from : (k at : ℕ) (past : List Turn) (b : Book) → length cs < at + k → Standing at past b → Ended cs room b₀ (run_from k cs room at past b)
  unfolding run_from turn
  from zero at past b l h = absurd (omega (arith, h.inside))
  from (suc k) at past b l h = go (parse_at cs at) refl (from k)
    where
      go : (p : Parsed) → parse_at cs at ≡ p
          → ((next : ℕ) (past' : List Turn) (b' : Book) → length cs < next + k → Standing next past' b' → Ended cs room b₀ (run_from k cs room next past' b'))
          → Ended cs room b₀ (turn (run_from k cs room) p room at past b)
      go End e ih = ended at past b h AllUsed (omega (arith, h.inside, end_parse cs at e))
      go Unknown e ih = ended at past b h UnknownCommand e
      go Cut e ih = ended at past b h CutShort e
      go (Whole c next) e ih = room? (leb (length (records past) + length (record_of (answer b c))) room) refl
        where
          n : (at < next) × (next ≤ length cs)
          n = parse_next cs at c next e

          room? : (t : Bool) → leb (length (records past) + length (record_of (answer b c))) room ≡ t
              → Ended cs room b₀ (cond t (run_from k cs room next (past ++ (turn_of b c ∷ [])) (after b c (answer b c))) (ends NoRoom at past b))
          room? true f = ih next _ _ (omega (arith, n.0)) (onward at past b h c next n.1 (leb-true _ _ f))
          room? false f = ended at past b h NoRoom (record { command = c; next = next; stands = e; long = leb-false _ _ f })

  -- HOW A CALL ENDS
  pub run_ends : Ended cs room b₀ (run cs room b₀)
  unfolding records
  run_ends = from (suc (length cs)) 0 [] b₀ (omega arith) (record { fits = omega arith; inside = omega arith; book = refl; answered = tt })

  -- THE BOOK is the one before, changed by each turn
  pub run_book : (run cs room b₀).book ≡ after_all b₀ (run cs room b₀).turns
  run_book = run_ends.book

  -- ALL USED: where the reason says so it is so
  pub run_all : (run cs room b₀).reason ≡ AllUsed → (run cs room b₀).used ≡ length cs
  run_all e = subst (λ (r : Reason). StopsFor cs room r (run cs room b₀).used (run cs room b₀).turns (run cs room b₀).book) e run_ends.stops

  -- and where it is so the reason says so
  pub all_run : (run cs room b₀).used ≡ length cs → (run cs room b₀).reason ≡ AllUsed
  all_run e = go (run cs room b₀) run_ends.stops e
    where
      go : (o : Outcome) → StopsFor cs room o.reason o.used o.turns o.book → o.used ≡ length cs → o.reason ≡ AllUsed
      go o s e = by o.reason s
        where
          by : (r : Reason) → StopsFor cs room r o.used o.turns o.book → r ≡ AllUsed
          by AllUsed h = refl
          by WrongLength h = absurd h
          by Broken h = absurd h
          by UnknownCommand h = absurd (omega (arith, unknown_parse cs o.used h))
          by CutShort h = absurd (omega (arith, cut_parse cs o.used h))
          by NoRoom h = let n = parse_next cs o.used h.command h.next h.stands in absurd (omega (arith, n.0, n.1))
          by BrokenStanding h = absurd h

  -- THE REASON is one of four: 0, 66, 67 or 68
  pub run_reason : ((run cs room b₀).reason ≡ AllUsed) ⊎ ((run cs room b₀).reason ≡ UnknownCommand) ⊎ ((run cs room b₀).reason ≡ CutShort) ⊎ ((run cs room b₀).reason ≡ NoRoom)
  run_reason = go (run cs room b₀).reason run_ends.stops
    where
      go : (r : Reason) → StopsFor cs room r (run cs room b₀).used (run cs room b₀).turns (run cs room b₀).book
          → (r ≡ AllUsed) ⊎ (r ≡ UnknownCommand) ⊎ (r ≡ CutShort) ⊎ (r ≡ NoRoom)
      go AllUsed h = inl refl
      go WrongLength h = absurd h
      go Broken h = absurd h
      go UnknownCommand h = inr (inl refl)
      go CutShort h = inr (inr (inl refl))
      go NoRoom h = inr (inr (inr refl))
      go BrokenStanding h = absurd h

  -- never 65
  pub run_not_broken : (run cs room b₀).reason ≢ Broken
  run_not_broken e = subst (λ (r : Reason). StopsFor cs room r (run cs room b₀).used (run cs room b₀).turns (run cs room b₀).book) e run_ends.stops

  -- nor 69
  pub run_not_standing : (run cs room b₀).reason ≢ BrokenStanding
  run_not_standing e = subst (λ (r : Reason). StopsFor cs room r (run cs room b₀).used (run cs room b₀).turns (run cs room b₀).book) e run_ends.stops

-- ---- the work buffer

-- document 02, C-21: "All answers, records and report bytes are those of the larger buffer." Whatever lengths n and m
-- are asked for, a call has one outcome where both work buffers are right, and one where both are wrong
pub either_length : (n m work work' : ℕ) → eqb work n ≡ eqb work' m → (cs : List ℕ) (room : ℕ) (b : Book) → call n work cs room b ≡ call m work' cs room b
either_length n m work work' e cs room b = rw e refl

-- of the right length: the commands run
pub call_right : {n : ℕ} (work : ℕ) (cs : List ℕ) (room : ℕ) (b : Book) → work ≡ n → call n work cs room b ≡ run cs room b
call_right {n} work cs room b e = rw (eq-eqb work n e) refl

-- of a wrong one: 64, and no step
pub call_wrong : {n : ℕ} (work : ℕ) (cs : List ℕ) (room : ℕ) (b : Book) → work ≢ n → call n work cs room b ≡ ends WrongLength 0 [] b
call_wrong {n} work cs room b e = rw (ne_eqb work n e) refl

-- ---- a loop that takes the turns one by one

-- at the loop's head: what is left of the run from here is the whole run from the start
pub record Steps (cs : List ℕ) (room : ℕ) (b₀ : Book) (used : ℕ) (past : List Turn) (b : Book) : Type 0 where
  pub turns : ℕ
  pub enough : length cs < used + turns
  pub same : run cs room b₀ ≡ run_from turns cs room used past b
  pub inside : used ≤ length cs
  pub fits : length (records past) ≤ room
  pub book : b ≡ after_all b₀ past

-- before the first command
pub steps_none : (cs : List ℕ) (room : ℕ) (b : Book) → Steps cs room b 0 [] b
unfolding records
steps_none cs room b = record { turns = suc (length cs); enough = omega arith; same = refl; inside = omega arith; fits = omega arith; book = refl }

-- one turn is left at least
more : (turns used n : ℕ) → n < used + turns → used ≤ n → (k : ℕ) × (turns ≡ suc k)
more zero used n l m = absurd (omega arith)
more (suc k) used n l m = (k, refl)

module _ (cs : List ℕ) (room : ℕ) (b₀ : Book) (used : ℕ) (past : List Turn) (b : Book) (g : Steps cs room b₀ used past b) where
  again : (k : ℕ) × (run cs room b₀ ≡ turn (run_from k cs room) (parse_at cs used) room used past b) × (length cs < used + suc k)
  unfolding run_from
  again =
      let m = more g.turns used (length cs) g.enough g.inside in
      (m.0, g.same ∙ ap (λ (j : ℕ). run_from j cs room used past b) m.1, rw (← m.1) g.enough)

  module _ (p : Parsed) (hp : p ≡ parse_at cs used) where
    -- the end stands there
    pub ends_all : p ≡ End → run cs room b₀ ≡ ends AllUsed used past b
    unfolding turn
    ends_all e = again.1 ∙ rw (sym hp ∙ e) refl

    -- no command stands there
    pub ends_unknown : p ≡ Unknown → run cs room b₀ ≡ ends UnknownCommand used past b
    unfolding turn
    ends_unknown e = again.1 ∙ rw (sym hp ∙ e) refl

    -- a command stands there that is cut short
    pub ends_cut : p ≡ Cut → run cs room b₀ ≡ ends CutShort used past b
    unfolding turn
    ends_cut e = again.1 ∙ rw (sym hp ∙ e) refl

    module _ (c : Command) (next : ℕ) (hc : p ≡ Whole c next) where
      -- the record of the command that stands there does not fit
      pub ends_full : room < length (records past) + length (record_of (answer b c)) → run cs room b₀ ≡ ends NoRoom used past b
      unfolding turn
      ends_full l = again.1 ∙ rw (sym hp ∙ hc, lt-leb (length (records past) + length (record_of (answer b c))) room l) refl

      -- fewer bytes are left
      pub steps_less : length cs - next < length cs - used
      steps_less = let x = parse_next cs used c next (sym hp ∙ hc) in omega arith

      -- ONE TURN
      pub steps_one : length (records past) + length (record_of (answer b c)) ≤ room → Steps cs room b₀ next (past ++ (turn_of b c ∷ [])) (after b c (answer b c))
      unfolding turn
      steps_one l =
          let x = parse_next cs used c next (sym hp ∙ hc) in
          record {
            turns = again.0;
            enough = omega (arith, again.2);
            same = again.1 ∙ rw (sym hp ∙ hc, le-leb (length (records past) + length (record_of (answer b c))) room l) refl;
            inside = x.1;
            fits = rw records_more l;
            book = ap (λ (y : Book). after y c (answer b c)) g.book ∙ sym (after_append b₀ past (turn_of b c ∷ []));
          }
