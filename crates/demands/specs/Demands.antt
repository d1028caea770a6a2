-- THE DEMANDS over the definitions of the calls (Batch.antt): of one call, of one list, of a whole list of calls, of
-- the tours in it; last, each of them for every call or list of calls (`Demands`), which is what is proved.
-- Assumes nothing.
use Rattle.std.specs.Prelude.{◌≡◌, ◌≢◌, ◌⊎◌, Bool, true, false, ◌||◌, ℕ, ◌+◌, ◌*◌, ◌≤◌, length, drop, eqb}
use Rattle.std.specs.Prelude.{Option, None, Some}
use mathlib.Core.List.{List, [], ◌∷◌, ◌++◌, map, Memᴰ}
use Rattle.std.proofs.Math.Decide.{dec_le}
use Rattle.limits.specs.Limits.{max_number, table_bytes, work_bytes}
use Rattle.words.specs.Words.{Only}
use Rattle.grid.specs.declared.Position.{Position}
use Rattle.grid.specs.declared.Site.{Site}
use Rattle.grid.specs.declared.Leg.{Leg}
use Rattle.grid.specs.declared.Fraction.{Fraction}
use Rattle.grid.specs.Position.{OnGrid, LegOnGrid}
use Rattle.grid.specs.Fraction.{IsFraction}
use Rattle.split.specs.SplitList.{Entry, IsSplitList, NearestAt, CoversAt}
use Rattle.split.specs.Ties.{FirstOfTies}
use Rattle.split.specs.SplitOf.{split_of}
use Rattle.records.specs.ListRecord.{record_bytes}
use Rattle.records.specs.Decode.{Listed, listed_of, read_record}
use Rattle.readings.specs.declared.Location.TheVariants.{InSteps}
use Rattle.book.specs.declared.Command.{Command}
use Rattle.book.specs.declared.Command.TheVariants.{Add, Remove, List as ListOf, Print, Corner}
use Rattle.book.specs.declared.Reason.{Reason}
use Rattle.book.specs.Numbers.{reason_number}
use Rattle.book.specs.declared.Tour.{Tour}
use Rattle.book.specs.Tour.{leg_to}
use Rattle.book.specs.Book.{Book, empty_book, sites_of, standing_list}
use Rattle.book.specs.Encode.{command_bytes}
use Rattle.permutation.specs.Perm.{Perm}
use Rattle.book.specs.Proper.{NumberOk}
use Rattle.book.specs.Reply.{listed, record_of}
use Rattle.book.specs.Answer.{answer, leg_asked, shown_by}
use Rattle.book.specs.Run.{Turn, Outcome, records, run, after_all, StopsFor}
use Rattle.book.specs.Listener.{Exchange, heard_leg, book_heard, tour_heard, LegTold}
use Rattle.table_rules.specs.Table.{Whole, StandingOk, Sound, book_of}
use Rattle.table_header.specs.Layout.{tour_start, tour_end}
use Rattle.table_empty.specs.EmptyTable.{zeros, empty_table}
use Rattle.demands.specs.Step.{Holds, keeps, tours}
use Rattle.demands.specs.Batch.{returns, lengths_ok, LaidOut}
use Rattle.demands.specs.Whole.{Call, MadeOn, Made, Ran, said, asked, replies, book_of_run, heard_of_run}
use Rattle.demands.specs.Whole.{Filled, Asks, HasRoom, WroteReport}

-- ---- demand 1: no call brings it down

-- the commands of a call on the table t, as the book takes them
abbrev pub run_of : List ℕ → Call → Outcome
run_of t c = run c.commands (length c.report) (book_of t)

-- none of these commands was accepted as a change: each was refused, or changes nothing
abbrev pub AllKeep : List Turn → Type 0
AllKeep [] = Unit {0}
AllKeep (u ∷ us) = (keeps u.command u.reply ≡ true) × AllKeep us

-- none of them changed more than the tour: each was refused, changes nothing, or is a 42 or a 43
abbrev pub AllTour : List Turn → Type 0
AllTour [] = Unit {0}
AllTour (u ∷ us) = ((keeps u.command u.reply || tours u.command) ≡ true) × AllTour us

-- a call that takes commands ends with 0, 66, 67 or 68: with the number of this reason, under that reason's
-- condition and no other (StopsFor)
pub record Stops (t : List ℕ) (c : Call) : Type 0 where
  pub reason : Reason
  pub number : c.result.reason ≡ reason_number reason
  pub for : StopsFor c.commands (length c.report) reason c.result.used (run_of t c).turns (run_of t c).book

-- what every call that takes commands returns, writes and leaves
pub record Kept (t : List ℕ) (c : Call) (t' : List ℕ) : Type 0 where
  pub stops : Stops t c
  -- reason 0 exactly when all command bytes are used
  pub all_used : c.result.reason ≡ 0 → c.result.used ≡ length c.commands
  pub used_all : c.result.used ≡ length c.commands → c.result.reason ≡ 0
  -- no more bytes are used or written than there are
  pub within : (c.result.used ≤ length c.commands) × (c.result.written ≤ length c.report)
  -- "Report bytes past the written ones are left"
  pub past : drop c.result.written c.report_after ≡ drop c.result.written c.report
  -- "The work buffer is all zero afterwards"
  pub cleared : c.work_after ≡ zeros work_bytes
  -- each command got the record of the book's answer, a refusal under its condition and no other, and the counts
  -- are those of these commands
  pub counts : (c.result.used ≡ (run_of t c).used) × (c.result.written ≡ length (records (run_of t c).turns))
  pub recorded : (said c).bytes ≡ records (run_of t c).turns
  -- the table is a sound one of the book then
  pub holds : Holds t' (run_of t c).book
  -- "Left as it was: table": a call without an accepted change leaves every byte of it
  pub kept : AllKeep (run_of t c).turns → t' ≡ t
  -- and one without another accepted change than 42 and 43 leaves every byte but those of the tour
  pub tour_alone : AllTour (run_of t c).turns → Only tour_start tour_end t t'

-- the call was refused with this number: "Left as it was: table, report", and the work buffer is all zero
abbrev pub RefusedWith : ℕ → List ℕ → Call → List ℕ → Type 0
RefusedWith n t c t' =
    (c.result ≡ returns n 0 0) × (t' ≡ t) × (c.work_after ≡ zeros work_bytes) × (c.report_after ≡ c.report)

-- DEMAND 1 of a batch call on any bytes: t and t' are the table before and after.
pub record Demand1 (t : List ℕ) (c : Call) (t' : List ℕ) : Type 0 where
  -- every call ends with a defined result: one of these numbers
  pub ends : Memᴰ c.result.reason (0 ∷ 64 ∷ 65 ∷ 66 ∷ 67 ∷ 68 ∷ 69 ∷ [])
  -- 64 exactly for a table or work buffer of wrong length; "Left as it was: everything"
  pub wrong : lengths_ok t c.work ≡ false
      → (c.result ≡ returns 64 0 0) × (t' ≡ t) × (c.work_after ≡ c.work) × (c.report_after ≡ c.report)
  pub only64 : c.result.reason ≡ 64 → lengths_ok t c.work ≡ false
  -- 65 exactly for a table that breaks the layout or a rule on tree, sites or tour
  pub broken : lengths_ok t c.work ≡ true → ¬ Whole t → RefusedWith 65 t c t'
  pub only65 : c.result.reason ≡ 65 → (lengths_ok t c.work ≡ true) × ¬ Whole t
  -- 69 exactly for a table that keeps these, and whose standing leg or list is wrong; "the buffers are left as with 65"
  pub broken_standing : lengths_ok t c.work ≡ true → Whole t → ¬ StandingOk t → RefusedWith 69 t c t'
  pub only69 : c.result.reason ≡ 69 → (lengths_ok t c.work ≡ true) × Whole t × ¬ StandingOk t
  -- every other call takes commands
  pub taken : lengths_ok t c.work ≡ true → Sound t → Kept t c t'

-- DEMAND 1 of a laying-out call: the table before, the reason's number, the table after.
pub record Demand1Laid (t : List ℕ) (r : ℕ) (t' : List ℕ) : Type 0 where
  pub ends : (r ≡ 0) ⊎ (r ≡ 64)
  -- "The laying-out call writes an empty table with no standing leg", and returns 0
  pub laid : length t ≡ table_bytes → (r ≡ 0) × (t' ≡ empty_table)
  -- "or 64 and leaves the bytes"
  pub wrong : length t ≢ table_bytes → (r ≡ 64) × (t' ≡ t)

-- ---- demand 2: every list is right

-- every entry, at every fraction that it covers, both ends included, is nearest among these sites
abbrev pub AllNearest : Leg → List Site → List Entry → Type 0
AllNearest l s [] = Unit {0}
AllNearest l s (e ∷ es) =
    ((t : Fraction) → IsFraction t → CoversAt e es t → NearestAt l s t e.site) × AllNearest l s es

-- the list of the leg l over the sites s is document 01's, as C-11 of document 02 changed it
pub record RightList (l : Leg) (s : List Site) (es : List Entry) : Type 0 where
  pub is : es ≡ split_of l s
  -- it follows the rules of a split list, which only one list does
  pub rules : IsSplitList l s es
  -- "Each entry's site is nearest .. at every fraction that the entry covers, both ends included."
  pub nearest : AllNearest l s es
  -- document 02, C-11: "Of sites that tie along the whole leg, one on the right now comes before others; then the lower
  -- number."
  pub ties : FirstOfTies l s es
  -- reading its record gives it back: no number and no fraction is cut off
  pub read : read_record (record_bytes es) ≡ map listed_of es

-- a call that takes commands: work buffer and table have the right lengths, and the table is sound
pub record IsServed (t : List ℕ) (c : Call) (t' : List ℕ) : Type 0 where
  pub sound : Sound t
  pub made : MadeOn t c t'
  pub work : length c.work ≡ work_bytes

-- the call comes to the command k: the command bytes before it were all used, which gave o, and its record has
-- room. What stands behind it is anything.
pub record ComesTo (t : List ℕ) (c : Call) (k : Command) (o : Outcome) : Type 0 where
  pub before : List ℕ
  pub behind : List ℕ
  pub commands : c.commands ≡ before ++ (command_bytes k ++ behind)
  pub so_far : run before (length c.report) (book_of t) ≡ o
  pub all : reason_number o.reason ≡ 0
  pub room : length (records o.turns) + length (record_of (answer o.book k)) ≤ length c.report

-- what the call wrote: the bytes `past`, then this record, then anything
pub record Printed (c : Call) (past bytes : List ℕ) : Type 0 where
  pub rest : List ℕ
  pub written : (said c).bytes ≡ (past ++ bytes) ++ rest

-- the call answered u: the turns before it, and behind it
pub record Answers (t : List ℕ) (c : Call) (past : List Turn) (u : Turn) : Type 0 where
  pub behind : List Turn
  pub turns : (run_of t c).turns ≡ past ++ (u ∷ behind)

-- a turn that was answered by the list es, on the book b that the turns before it left: the leg that its command k
-- asks for; the list of that leg is right, and what k shows of it was printed
pub record ListedRight (c : Call) (b : Book) (past : List Turn) (k : Command) (es : List Entry) : Type 0 where
  pub leg : Leg
  pub asked : leg_asked b k ≡ Some leg
  pub whole : List Entry
  pub list : RightList leg (sites_of b) whole
  -- all of it, but for the first entry that a 43 may leave out
  pub shown : es ≡ shown_by b k whole
  pub printed : Printed c (records past) (record_bytes es)
  pub read : read_record (record_bytes es) ≡ map listed_of es

-- the list of the leg l over the sites of the book then is right, and what k shows of it was printed behind the
-- records of o
abbrev pub GivesList : Call → Command → Leg → Outcome → Type 0
GivesList c k l o =
    RightList l (sites_of o.book) (split_of l (sites_of o.book))
    × Printed c (records o.turns) (record_bytes (shown_by o.book k (split_of l (sites_of o.book))))

-- DEMAND 2 of a call that takes commands, on whatever sound table t.
pub record Demand2 (t : List ℕ) (c : Call) : Type 0 where
  -- whatever is answered by a list, wherever in the batch: the list is right
  pub right : (past : List Turn) (u : Turn) → Answers t c past u → (es : List Entry) → u.reply ≡ listed es
      → ListedRight c (after_all (book_of t) past) past u.command es
  -- a leg on the grid gets its list whenever a site is held and the report has room
  pub given : (l : Leg) (o : Outcome) → ComesTo t c (ListOf l) o → LegOnGrid l → sites_of o.book ≢ []
      → GivesList c (ListOf l) l o
  -- and so does the standing leg
  pub given_standing : (l : Leg) (o : Outcome) → ComesTo t c Print o → o.book.leg ≡ Some l
      → sites_of o.book ≢ [] → GivesList c Print l o
  -- and the next leg of a tour
  pub given_corner : (p : Position) (k : Tour) (o : Outcome) → ComesTo t c (Corner p) o → o.book.tour ≡ Some k
      → OnGrid p → sites_of o.book ≢ [] → GivesList c (Corner p) (leg_to k p) o

-- ---- demand 3: shape does not matter

-- the bytes of a 4C
abbrev pub list4_c : Leg → List ℕ
list4_c l = command_bytes (ListOf l)

-- and of a 50
abbrev pub print50 : List ℕ
print50 = command_bytes Print

-- the record of a 4C of the leg l in the book b
abbrev pub list_record : Book → Leg → List ℕ
list_record b l = record_of (answer b (ListOf l))

-- what the additions of a fresh table are: those of the book's lines, in any order
pub record FreshOf (b : Book) (fs : List Call) : Type 0 where
  pub order : List Site
  pub filled : Filled (map asked fs) order
  pub perm : Perm order b.lines

-- this list where the mark is that of a list, else none
abbrev pub if_listed : Bool → List Listed → List Listed
if_listed true es = es
if_listed false es = []

-- the list that a record tells: that of a 3D, none where the 50 was refused ("empty where that answers 21 06")
abbrev pub list_in : List ℕ → List Listed
list_in [] = []
list_in (mark ∷ s) = if_listed (eqb mark 0x3D) (read_record (mark ∷ s))

-- "In demand 3 the standing list is what 50 prints as the next command with room enough"
pub record Prints (t : List ℕ) (es : List Listed) : Type 0 where
  pub call : Call
  pub left : List ℕ
  pub asks : Asks t print50 call left
  pub ended : call.result.reason ≡ 0
  pub list : es ≡ list_in (said call).bytes

-- "One addition or removal is one accepted 41 or 44 after such a list": the 50 printed `old` on the table t, then
-- the command k was accepted, then the 50 printed `new`
pub record Changed (t : List ℕ) (k : Command) (old new : List Listed) : Type 0 where
  pub before : Prints t old
  pub call : Call
  pub table : List ℕ
  pub asks : Asks before.left (command_bytes k) call table
  pub accepted : WroteReport call (0x2B ∷ [])
  pub behind : Prints table new

-- the first where the test holds, else the second
abbrev pub whether : {A : Type 0} → Dec A → ℕ → ℕ → ℕ
whether (yes h) m n = m
whether (no h) m n = n

-- the number that a list names at t which begins with the entry e
unfoldable pub number_from : Fraction → Listed → List Listed → ℕ
number_from t e [] = e.number
number_from t e (f ∷ fs) =
    whether (dec_le (f.start.num * t.den) (t.num * f.start.den)) (number_from t f fs) e.number

-- "At t a list names the site of its last entry whose start is not above t": its number, none where the list has no
-- entry
abbrev pub number_at : Fraction → List Listed → Option ℕ
number_at t [] = None
number_at t (e ∷ es) = Some (number_from t e es)

-- DEMAND 3 of the calls cs, where b is the site book after the same calls and t' the table then (`Demand3`).
pub record Demand3On (cs : List Call) (b : Book) (t' : List ℕ) : Type 0 where
  -- each call returns and reports exactly what the site book gives
  pub answers : map said cs ≡ replies empty_book (map asked cs)
  -- "No table that came from laying out and batches is ever refused with 65."
  pub never65 : (c : Call) → Memᴰ c cs → c.result.reason ≢ 65
  -- document 02, C-17: "No table that came from laying out and batches is ever refused with 69 either."
  pub never69 : (c : Call) → Memᴰ c cs → c.result.reason ≢ 69
  -- the list of a leg on the grid is answered whenever a site is held and the report has room; the table's bytes
  -- are left
  pub lists : (l : Leg) → LegOnGrid l → sites_of b ≢ [] → (c : Call) (t'' : List ℕ) → Asks t' (list4_c l) c t''
      → HasRoom c (record_bytes (split_of l (sites_of b))) → WroteReport c (record_bytes (split_of l (sites_of b))) × (t'' ≡ t')
  -- and it is the split list over the book's sites
  pub right : (l : Leg) → LegOnGrid l → RightList l (sites_of b) (split_of l (sites_of b))
  -- the fresh table's additions are all accepted: its book has the same lines
  pub filled : (fs : List Call) (u' : List ℕ) → Ran fs u' → FreshOf b fs → (book_of_run fs).lines ≡ b.lines
  -- "A 4C with the same leg and room enough then writes the same record on both."
  pub fresh : (fs : List Call) (u' : List ℕ) → Ran fs u' → FreshOf b fs → (l : Leg) → LegOnGrid l
      → (c d : Call) (t'' u'' : List ℕ) → Asks t' (list4_c l) c t'' → Asks u' (list4_c l) d u''
      → HasRoom c (list_record b l) → HasRoom d (list_record b l) → said c ≡ said d
  -- "The standing list is always the list of the standing leg": with a site held the 50 and the 4C of that leg
  -- write the same bytes
  pub standing : (k : Leg) → b.leg ≡ Some k → sites_of b ≢ []
      → (c d : Call) (t'' u'' : List ℕ) → Asks t' print50 c t'' → Asks t' (list4_c k) d u''
      → HasRoom c (record_bytes (standing_list b)) → HasRoom d (record_bytes (standing_list b))
      → WroteReport c (record_bytes (standing_list b)) × WroteReport d (record_bytes (standing_list b))
  -- "empty where that answers 21 06"
  pub siteless : (k : Leg) → b.leg ≡ Some k → sites_of b ≡ []
      → (c : Call) (t'' : List ℕ) → Asks t' print50 c t'' → 2 ≤ length c.report
      → WroteReport c (0x21 ∷ 6 ∷ []) × (standing_list b ≡ [])
  -- without a standing leg the 50 is refused with 7
  pub unset : b.leg ≡ None
      → (c : Call) (t'' : List ℕ) → Asks t' print50 c t'' → 2 ≤ length c.report → WroteReport c (0x21 ∷ 7 ∷ [])
  -- one accepted 41: at every fraction the standing list names what it named before, or the new site
  pub added : (p : Site) → NumberOk p → OnGrid p.position
      → (old new : List Listed) → Changed t' (Add p.number (InSteps p.position)) old new
      → (t : Fraction) → IsFraction t → (number_at t new ≡ number_at t old) ⊎ (number_at t new ≡ Some p.number)
  -- one accepted 44: at every fraction it names what it named before, or it named the site that is gone
  pub removed : (n : ℕ) → n ≤ max_number → (old new : List Listed) → Changed t' (Remove n) old new
      → (t : Fraction) → IsFraction t → (number_at t new ≡ number_at t old) ⊎ (number_at t old ≡ Some n)

-- DEMAND 3 of the calls cs, made on a table just laid out, which they leave as t'
abbrev pub Demand3 : List Call → List ℕ → Type 0
Demand3 cs t' = Demand3On cs (book_of_run cs) t'

-- the same calls were asked of two sound tables of one book
pub record AskedAlike (t u : List ℕ) (cs ds : List Call) (t' u' : List ℕ) : Type 0 where
  pub sound : Sound t × Sound u
  pub book : book_of t ≡ book_of u
  pub made : Made t cs t' × Made u ds u'
  pub asked_same : map asked cs ≡ map asked ds

-- WHAT EVERY CHOICE OF BYTES HAS IN COMMON: such calls are answered alike, and leave tables of one book again. So
-- the bytes that are the program's choice have no effect on any answer.
pub record Alike (cs ds : List Call) (t' u' : List ℕ) : Type 0 where
  pub said_same : map said cs ≡ map said ds
  pub sound : Sound t' × Sound u'
  pub book : book_of t' ≡ book_of u'

-- ---- tours

-- THE PROMISE OF TOURS, of the calls cs made on a table just laid out: of every 43 that was answered, wherever it
-- stands among what was heard of the calls. `past` is all that was heard before it, in this call and in those before
abbrev pub ToursTold : List Call → Type 0
ToursTold cs =
    (past later : List Exchange) (p : Position) (es : List Listed) → heard_of_run cs ≡ past ++ (heard_leg p es ∷ later)
    → LegTold (book_heard past) (tour_heard past) p es

-- ---- all of them

-- THE DEMANDS, of every call, every laying out, every call that takes commands, and every list of calls on a table
-- just laid out
pub record Demands : Type 0 where
  pub one : (t : List ℕ) (c : Call) (t' : List ℕ) → MadeOn t c t' → Demand1 t c t'
  pub laying_out : (t : List ℕ) (r : ℕ) (t' : List ℕ) → LaidOut t r t' → Demand1Laid t r t'
  pub two : (t : List ℕ) (c : Call) (t' : List ℕ) → IsServed t c t' → Demand2 t c
  pub three : (cs : List Call) (t' : List ℕ) → Ran cs t' → Demand3 cs t'
  pub tours : (cs : List Call) (t' : List ℕ) → Ran cs t' → ToursTold cs
  pub choices : (t u : List ℕ) (cs ds : List Call) (t' u' : List ℕ) → AskedAlike t u cs ds t' u' → Alike cs ds t' u'
