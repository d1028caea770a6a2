-- DEMAND 3, proved over the records of the calls' contracts alone.
-- Assumes nothing.
use mathlib.Core.Path.{◌≡◌, refl, sym, ap, ◌∙◌, subst}
use mathlib.Core.Logic.{◌≢◌, ◌⊎◌, inl, inr, ⊎_map}
use Rattle.std.specs.Prelude.{Option, None, Some}
use mathlib.Core.List.Memᴰ
use mathlib.Core.List.{List, [], ◌∷◌, ◌++◌, map, Memᴰ}
use mathlib.Core.Bool.{Bool, true, false, cond}
use Prim.Native.Nat.{ℕ, ◌≤◌}
use native.Mathlib.Omega.{arith}
use lib.ListN.{length}
use lib.Dec.{eqb}
use Rattle.limits.specs.Limits.{max_number, work_bytes}
use Rattle.grid.specs.declared.Site.{Site}
use Rattle.grid.specs.declared.Leg.{Leg}
use Rattle.grid.specs.declared.Fraction.{Fraction}
use Rattle.grid.specs.Position.{OnGrid, LegOnGrid}
use Rattle.grid.specs.Fraction.{IsFraction}
use Rattle.split.specs.SplitList.{Entry, Numbered}
use Rattle.split.specs.SplitOf.{split_of}
use Rattle.split.proofs.Dealing.{no_site_lem}
use Rattle.records.specs.ListRecord.{record_bytes}
use Rattle.records.specs.Decode.{Listed, listed_of}
use Rattle.readings.specs.declared.Location.TheVariants.{InSteps}
use Rattle.book.specs.declared.Command.{Command}
use Rattle.book.specs.declared.Command.TheVariants.{Add, Remove, List as ListOf, Print}
use Rattle.book.specs.declared.Cause.TheVariants.{NoSite, NoLeg}
use Rattle.book.specs.declared.Reason.{Reason}
use Rattle.book.specs.declared.Reason.TheVariants.{WrongLength, Broken, BrokenStanding}
use Rattle.book.specs.Numbers.{reason_number}
use Rattle.book.specs.Book.{Book, empty_book, sites_of, change, write_line, strike_line, list_of, standing_list}
use Rattle.book.specs.Encode.{command_bytes, additions}
use Rattle.permutation.specs.Perm.{Perm}
use Rattle.book.specs.Proper.{Proper, NumberOk, LegOk}
use Rattle.book.specs.Reply.{Reply, done, refused, listed, record_of}
use Rattle.book.specs.Answer.{answer, after}
use Rattle.book.specs.Run.{Outcome, ends, run}
use Rattle.book.proofs.Lines.{HeldLine, holds_member, write_sites, strike_sites}
use Rattle.book.proofs.Answers.{answer_print_legless, answer_print_empty, answer_print_done, remove_accepted}
use Rattle.book.proofs.ProperBooks.{proper_numbered}
use Rattle.book.proofs.Runs.{call_right, run_not_broken, run_not_standing}
use Rattle.book.proofs.ReadBack.{Encodable}
use Rattle.book.proofs.Refill.{refill, all_sites, Roomy, after_calls}
use Rattle.book.proofs.Refill as refills
use Rattle.table_rules.proofs.Books.{sound_proper}
use Rattle.demands.specs.Step.{Holds, keeps}
use Rattle.demands.specs.Whole.Made.{none as no_call, next}
use Rattle.demands.specs.Whole.Filled.{none as no-ask, next as more-asks}
use Rattle.demands.specs.Whole.{Call, Made, Ran, Said, said, Ask, asked, taken, book_after, book_of_run, Filled, Asks, HasRoom, WroteReport}
use Rattle.demands.specs.Demands.{list4_c, print50, list_record, FreshOf, Changed, number_at, Demand3}
use Rattle.demands.proofs.Reasons.{same_reason}
use Rattle.demands.proofs.WholeRun.{Answered, one_on, ran_holds, ran_answers, laid_holds}
use Rattle.demands.proofs.Legs.{small, list_encodable, held_some, list_answer, list_right}
use Rattle.demands.proofs.OneCommand.{wrote_one, holds_one, kept_one, accepted_one}
use Rattle.demands.proofs.Printing.{prints_list, prints_left, numbers_more}

-- ---- never 65, and never 69

-- this reason is one that the book never gives
Unsaid : Reason → Type 0
Unsaid x = (a : Ask) (b : Book) → (taken a b).reason ≢ x

unsaid : (x : Reason) → ((cs : List ℕ) (room : ℕ) (b : Book) → (run cs room b).reason ≢ x) → WrongLength ≢ x → Unsaid x
unfolding Unsaid
unsaid x n w a b = go (eqb a.work work_bytes)
  where
    go : (d : Bool) → (cond d (run a.commands a.room b) (ends WrongLength 0 [] b)).reason ≢ x
    go true e = n a.commands a.room b e
    go false e = w e

made_never : (x : Reason) → Unsaid x → (t : List ℕ) (b : Book) → Holds t b → (cs : List Call) (t' : List ℕ) → Made t cs t'
    → (c : Call) → Memᴰ c cs → c.result.reason ≢ reason_number x
unfolding Unsaid
made_never x u t b h cs t' no_call c m = absurd (Memᴰ.not-nil m)
made_never x u t b h (k ∷ cs) t' (next {t₁ = t₁} made more) c m =
    let a = one_on t b h k t₁ made in
    go a (Memᴰ.cases_cons m) (made_never x u t₁ (taken (asked k) b).book a.holds cs t' more c)
  where
    go : Answered b k t₁ → (c ≡ k) ⊎ Memᴰ c cs → (Memᴰ c cs → c.result.reason ≢ reason_number x) → c.result.reason ≢ reason_number x
    go a (inl e) ih z =
        u (asked k) b
        (same_reason (taken (asked k) b).reason x
        (sym (ap (λ (y : Said). y.reason) a.said_is) ∙ sym (ap (λ (y : Call). y.result.reason) e) ∙ z))
    go a (inr m) ih z = ih m z

never : (x : Reason) → Unsaid x → (cs : List Call) (t' : List ℕ) → Ran cs t' → (c : Call) → Memᴰ c cs → c.result.reason ≢ reason_number x
never x u cs t' r = made_never x u r.laid_table empty_book (laid_holds r.before r.laid_table r.laid) cs t' r.made

-- "No table that came from laying out and batches is ever refused with 65", and "with 69 either"
never_broken : Unsaid Broken
never_broken = unsaid Broken run_not_broken (λ e. let z : 64 ≡ 65 = ap reason_number e in omega arith)

never_standing : Unsaid BrokenStanding
never_standing = unsaid BrokenStanding run_not_standing (λ e. let z : 64 ≡ 69 = ap reason_number e in omega arith)

-- ---- the list of a leg, and the standing list

-- a 4C keeps the table, whatever it is answered
list_keeps : (l : Leg) (y : Reply) → keeps (ListOf l) y ≡ true
list_keeps l done = refl
list_keeps l (refused x) = refl
list_keeps l (listed es) = refl

-- on a table of a book that keeps the rules
module _ (b : Book) (t' : List ℕ) (h : Holds t' b) (ok : Proper b) where
  -- a 50 that is answered so writes that record
  wrote_print : (y : Reply) → answer b Print ≡ y → (c : Call) (t'' : List ℕ) → Asks t' print50 c t'' → HasRoom c (record_of y) → WroteReport c (record_of y)
  wrote_print y p c t'' a room =
      subst (λ (x : Reply). WroteReport c (record_of x)) p (wrote_one t' b h Print tt c t'' a (subst (λ (x : Reply). HasRoom c (record_of x)) (sym p) room))

  listed_is : (l : Leg) → LegOnGrid l → sites_of b ≢ [] → (c : Call) (t'' : List ℕ) → Asks t' (list4_c l) c t''
      → HasRoom c (record_bytes (split_of l (sites_of b))) → WroteReport c (record_bytes (split_of l (sites_of b))) × (t'' ≡ t')
  listed_is l on held c t'' a room =
      let e = list_answer b l on held in
      let fits : HasRoom c (record_of (answer b (ListOf l))) = subst (λ (y : Reply). HasRoom c (record_of y)) (sym e) room in (
        subst (λ (y : Reply). WroteReport c (record_of y)) e (wrote_one t' b h (ListOf l) (list_encodable l on) c t'' a fits),
        kept_one t' b h (ListOf l) (list_encodable l on) c t'' a fits (list_keeps l (answer b (ListOf l))),
      )

  standing_is : (k : Leg) → b.leg ≡ Some k → sites_of b ≢ []
      → (c d : Call) (t'' u'' : List ℕ) → Asks t' print50 c t'' → Asks t' (list4_c k) d u''
      → HasRoom c (record_bytes (standing_list b)) → HasRoom d (record_bytes (standing_list b))
      → WroteReport c (record_bytes (standing_list b)) × WroteReport d (record_bytes (standing_list b))
  standing_is k e held c d t'' u'' ac ad rc rd =
      let s : standing_list b ≡ split_of k (sites_of b) = ap (λ (o : Option Leg). list_of o (sites_of b)) e in
      let p : answer b Print ≡ listed (standing_list b) = answer_print_done b k e (held_some (sites_of b) held) ∙ ap listed (sym s) in (
        wrote_print (listed (standing_list b)) p c t'' ac rc,
        subst (λ (x : List Entry). WroteReport d (record_bytes x)) (sym s)
            (listed_is k (subst LegOk e ok.leg_ok) held d u'' ad (subst (λ (x : List Entry). HasRoom d (record_bytes x)) s rd)).0,
      )

  siteless_is : (k : Leg) → b.leg ≡ Some k → sites_of b ≡ []
      → (c : Call) (t'' : List ℕ) → Asks t' print50 c t'' → 2 ≤ length c.report → WroteReport c (0x21 ∷ 6 ∷ []) × (standing_list b ≡ [])
  siteless_is k e z c t'' a room = (wrote_print (refused NoSite) (answer_print_empty b k e (ap length z)) c t'' a room, (λ i. list_of (e i) (z i)) ∙ no_site_lem k)

  unset_is : b.leg ≡ None → (c : Call) (t'' : List ℕ) → Asks t' print50 c t'' → 2 ≤ length c.report → WroteReport c (0x21 ∷ 7 ∷ [])
  unset_is e c t'' a room = wrote_print (refused NoLeg) (answer_print_legless b e) c t'' a room

  -- ---- one addition, one removal

  -- an accepted command between two 50s: what they print are the standing lists before and after, and the book after keeps the rules
  module _ (k : Command) (enc : Encodable k) (old new : List Listed) (g : Changed t' k old new) where
    asks_here : Asks t' (command_bytes k) g.call g.table
    asks_here = subst (λ (x : List ℕ). Asks x (command_bytes k) g.call g.table) (prints_left t' b h old g.before) g.asks

    accepted : (answer b k ≡ done) × HasRoom g.call (record_of (answer b k))
    accepted = accepted_one t' b h k enc g.call g.table asks_here g.accepted

    holds_then : Holds g.table (change k b)
    holds_then = subst (λ (y : Reply). Holds g.table (after b k y)) accepted.0 (holds_one t' b h k enc g.call g.table asks_here accepted.1)

    numbered_then : Numbered (change k b).lines
    numbered_then = proper_numbered (change k b) (subst Proper holds_then.book (sound_proper g.table holds_then.sound))

    old_is : old ≡ map listed_of (standing_list b)
    old_is = prints_list t' b h old g.before

    new_is : new ≡ map listed_of (standing_list (change k b))
    new_is = prints_list g.table (change k b) holds_then new g.behind

  added_is : (p : Site) → NumberOk p → OnGrid p.position → (old new : List Listed) → Changed t' (Add p.number (InSteps p.position)) old new
      → (t : Fraction) → IsFraction t → (number_at t new ≡ number_at t old) ⊎ (number_at t new ≡ Some p.number)
  unfolding change
  added_is p np on old new g t f =
      let k = Add p.number (InSteps p.position) in
      let enc : Encodable (Add p.number (InSteps p.position)) = (omega (arith, np.most), small p.position on) in
      rw (old_is k enc old new g, new_is k enc old new g)
      (numbers_more b.lines (write_line p b.lines) p (numbered_then k enc old new g) (write_sites p b.lines) t f b.leg)

  removed_is : (n : ℕ) → n ≤ max_number → (old new : List Listed) → Changed t' (Remove n) old new
      → (t : Fraction) → IsFraction t → (number_at t new ≡ number_at t old) ⊎ (number_at t old ≡ Some n)
  unfolding change
  removed_is n most old new g t f =
      let enc : Encodable (Remove n) = omega arith in
      let l : HeldLine n b.lines = holds_member n b.lines (remove_accepted b n (accepted (Remove n) enc old new g).0).held in
      let s = strike_sites n b.lines l.line ok.rising l.held l.named in
      rw (old_is (Remove n) enc old new g, new_is (Remove n) enc old new g)
      (⊎_map sym (λ e. e ∙ ap Some l.named)
      (numbers_more (strike_line n b.lines) b.lines l.line (proper_numbered b ok) (record { to = s.back; back = s.to }) t f b.leg))

-- ---- the fresh table

-- the asks of a fresh table, as calls of additions
record Refilled (asks : List Ask) (order : List Site) : Type 0 where
  batches : List refills.Batch
  sites : all_sites batches ≡ order
  roomy : Roomy batches
  same : (b : Book) → book_after b asks ≡ after_calls b batches

refilled : (asks : List Ask) (order : List Site) → Filled asks order → Refilled asks order
unfolding book_after
refilled asks order no-ask = record { batches = []; sites = refl; roomy = tt; same = λ b. refl }
refilled (a ∷ asks) order (more-asks {more = more} s w e room f) =
    let r = refilled asks more f in
    record {
      batches = record { sites = s; room = a.room } ∷ r.batches;
      sites = ap (λ (x : List Site). s ++ x) r.sites;
      roomy = (room, r.roomy);
      same = λ b.
          ap (λ (o : Outcome). book_after o.book asks) (call_right a.work a.commands a.room b w ∙ ap (λ (x : List ℕ). run x a.room b) e)
          ∙ r.same (run (additions s) a.room b).book;
    }

pub filled_is : (b : Book) → Proper b → (fs : List Call) → FreshOf b fs → (book_of_run fs).lines ≡ b.lines
filled_is b ok fs f =
    let x = refilled (map asked fs) f.order f.filled in
    ap (λ (z : Book). z.lines)
    (x.same empty_book ∙ (refill b ok x.batches (subst (λ (s : List Site). Perm s b.lines) (sym x.sites) f.perm) x.roomy).1)

-- a list depends on the lines alone
by_lines : (l : Leg) (b d : Book) → b.lines ≡ d.lines → answer b (ListOf l) ≡ answer d (ListOf l)
unfolding answer
by_lines l b d e = ap (λ (s : List Site). answer (record { lines = s; leg = None; tour = None }) (ListOf l)) e

fresh_is : (b : Book) (t' : List ℕ) → Holds t' b → Proper b → (fs : List Call) (u' : List ℕ) → Ran fs u' → FreshOf b fs → (l : Leg) → LegOnGrid l
    → (c d : Call) (t'' u'' : List ℕ) → Asks t' (list4_c l) c t'' → Asks u' (list4_c l) d u''
    → HasRoom c (list_record b l) → HasRoom d (list_record b l) → said c ≡ said d
fresh_is b t' h ok fs u' q f l on c d t'' u'' ac ad rc rd =
    let e : answer (book_of_run fs) (ListOf l) ≡ answer b (ListOf l) = by_lines l (book_of_run fs) b (filled_is b ok fs f) in
    let wc : WroteReport c (list_record b l) = wrote_one t' b h (ListOf l) (list_encodable l on) c t'' ac rc in
    let rd' : HasRoom d (list_record (book_of_run fs) l) = subst (λ (y : Reply). HasRoom d (record_of y)) (sym e) rd in
    let wd : WroteReport d (list_record b l) = subst (λ (y : Reply). WroteReport d (record_of y)) e (wrote_one u' (book_of_run fs) (ran_holds fs u' q) (ListOf l) (list_encodable l on) d u'' ad rd') in
    wc
    ∙ (λ i. record {
      reason = 0;
      used = length ((ac.commands ∙ sym ad.commands) i);
      written = length (list_record b l);
      bytes = list_record b l;
    })
    ∙ sym wd

-- THE THEOREM
pub demand3 : (cs : List Call) (t' : List ℕ) → Ran cs t' → Demand3 cs t'
demand3 cs t' r =
    let b = book_of_run cs in
    let h = ran_holds cs t' r in
    let ok = subst Proper h.book (sound_proper t' h.sound) in
    record {
      answers = ran_answers cs t' r;
      never65 = never Broken never_broken cs t' r;
      never69 = never BrokenStanding never_standing cs t' r;
      lists = listed_is b t' h ok;
      right = λ l on. list_right b ok l on (split_of l (sites_of b)) refl;
      filled = λ fs u' q f. filled_is b ok fs f;
      fresh = fresh_is b t' h ok;
      standing = standing_is b t' h ok;
      siteless = siteless_is b t' h ok;
      unset = unset_is b t' h ok;
      added = added_is b t' h ok;
      removed = removed_is b t' h ok;
    }
