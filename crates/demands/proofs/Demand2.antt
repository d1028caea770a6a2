-- DEMAND 2, proved over the definition of the batch call's contract alone.
-- Assumes nothing.
use mathlib.Core.Path.{◌≡◌, refl, sym, ap, ◌∙◌, subst}
use mathlib.Core.Logic.{◌≢◌}
use Rattle.std.specs.Prelude.{Option, Some}
use mathlib.Core.List.{List, [], ◌∷◌, ◌++◌, append_assoc, append-nil}
use Prim.Native.Nat.{ℕ, ◌+◌, ◌≤◌}
use lib.ListN.{length}
use Rattle.grid.specs.declared.Position.{Position}
use Rattle.grid.specs.declared.Leg.{Leg}
use Rattle.grid.specs.Position.{OnGrid, LegOnGrid}
use Rattle.split.specs.SplitList.{Entry}
use Rattle.split.specs.SplitOf.{split_of}
use Rattle.records.specs.ListRecord.{record_bytes}
use Rattle.records.specs.Decode.{read_record}
use Rattle.book.specs.declared.Command.{Command}
use Rattle.book.specs.declared.Command.TheVariants.{List as ListOf, Print, Corner}
use Rattle.book.specs.declared.Reason.TheVariants.{AllUsed}
use Rattle.book.specs.declared.Tour.{Tour}
use Rattle.book.specs.Tour.{leg_to, remembered, left_out}
use Rattle.book.specs.Book.{sites_of}
use Rattle.book.specs.Encode.{command_bytes}
use Rattle.book.specs.Proper.{LegOk, TourFits, TourOk, Proper}
use Rattle.book.specs.Reply.{Reply, listed, record_of}
use Rattle.book.specs.Answer.{answer, shown_by}
use Rattle.book.specs.Run.{Turn, Outcome, records, run, after_all}
use Rattle.book.proofs.Answers.{answer_print_done, answer_corner_done}
use Rattle.book.proofs.Runs.{turn_of, records_append, call_right, run_ends, run_book, answered_at}
use Rattle.book.proofs.ReadBack.{Encodable}
use Rattle.book.proofs.Prefixes.{Grown, comes_to}
use Rattle.book.proofs.Lists.{answer_list, listed_read}
use Rattle.table_rules.specs.Table.{book_of}
use Rattle.table_rules.proofs.Books.{sound_proper}
use Rattle.demands.specs.Step.{Chain}
use Rattle.demands.specs.Whole.{Call, Said, said}
use Rattle.demands.specs.Demands.{run_of, IsServed, ComesTo, Printed, Answers, ListedRight, GivesList, Demand2}
use Rattle.demands.proofs.Reasons.{same_reason}
use Rattle.demands.proofs.Chains.{chain_holds, chain_front}
use Rattle.demands.proofs.WholeRun.{served_call, one_call}
use Rattle.demands.proofs.Legs.{small, held_some, list_encodable, list_answer, list_right}

module _ (t : List ℕ) (c : Call) (t' : List ℕ) (v : IsServed t c t') where
  -- the bytes written are the records of the run
  wrote_run : (said c).bytes ≡ records (run_of t c).turns
  wrote_run =
      ap (λ (s : Said). s.bytes) (one_call t v.sound c t' v.made).said_is
      ∙ ap (λ (p : Outcome). records p.turns) (call_right (length c.work) c.commands (length c.report) (book_of t) v.work)

  -- the record of a turn stands behind those of the turns before it
  printed : (past : List Turn) (u : Turn) (behind : List Turn) → (run_of t c).turns ≡ past ++ (u ∷ behind) → (es : List Entry) → u.reply ≡ listed es
      → Printed c (records past) (record_bytes es)
  unfolding records
  printed past u behind e es h =
      record {
        rest = records behind;
        written =
            wrote_run ∙ ap records e ∙ records_append past (u ∷ behind)
            ∙ ap (λ (y : Reply). records past ++ (record_of y ++ records behind)) h
            ∙ sym (append_assoc (records past) (record_bytes es) (records behind));
      }

  -- ---- whatever is answered by a list

  -- the book then keeps the rules
  proper_then : (past : List Turn) (u : Turn) (behind : List Turn) → (run_of t c).turns ≡ past ++ (u ∷ behind) → Proper (after_all (book_of t) past)
  proper_then past u behind e =
      let k : Chain t (past ++ (u ∷ behind)) t' = subst (λ (us : List Turn). Chain t us t') e (served_call t v.sound c t' v.made v.work).table in
      let f = chain_front t past (u ∷ behind) t' k in
      let h = chain_holds t v.sound past f.0 f.1 in
      subst Proper h.book (sound_proper f.0 h.sound)

  right_is : (past : List Turn) (u : Turn) → Answers t c past u → (es : List Entry) → u.reply ≡ listed es
      → ListedRight c (after_all (book_of t) past) past u.command es
  right_is past u a es h =
      let b = after_all (book_of t) past in
      let ok = proper_then past u a.behind a.turns in
      let w = (run_ends c.commands (length c.report) (book_of t)).answered in
      let y : answer b u.command ≡ listed es = sym (answered_at (book_of t) past u a.behind (rw (← a.turns) w)) ∙ h in
      let l = answer_list b ok u.command es y in
      record {
        leg = l.leg;
        asked = l.asked;
        whole = split_of l.leg (sites_of b);
        list = list_right b ok l.leg l.on_grid (split_of l.leg (sites_of b)) refl;
        shown = l.is;
        printed = printed past u a.behind a.turns es h;
        read = ap read_record (sym (append-nil (record_bytes es))) ∙ listed_read b ok u.command es l [];
      }

  -- ---- a command that is answered by a list gets it

  -- the turns of the bytes before, and that of the command, are the first of the call
  grown : (k : Command) → Encodable k → (o : Outcome) (a : ComesTo t c k o)
      → Grown (length a.before + length (command_bytes k)) (o.turns ++ (turn_of o.book k ∷ [])) (run_of t c)
  grown k ok o a =
      subst (λ (s : List ℕ). Grown (length a.before + length (command_bytes k)) (o.turns ++ (turn_of o.book k ∷ [])) (run s (length c.report) (book_of t))) (sym a.commands)
      (subst (λ (p : Outcome). p.reason ≡ AllUsed → length (records p.turns) + length (record_of (answer p.book k)) ≤ length c.report
      → Grown (length a.before + length (command_bytes k)) (p.turns ++ (turn_of p.book k ∷ [])) (run (a.before ++ (command_bytes k ++ a.behind)) (length c.report) (book_of t)))
      a.so_far
      (comes_to a.before a.behind k ok (length c.report) (book_of t))
      (same_reason o.reason AllUsed a.all)
      a.room)

  given : (k : Command) → Encodable k → (o : Outcome) → ComesTo t c k o → (es : List Entry) → answer o.book k ≡ listed es → Printed c (records o.turns) (record_bytes es)
  given k ok o a es h =
      let g = grown k ok o a in
      printed o.turns (turn_of o.book k) g.rest (g.turns ∙ append_assoc o.turns (turn_of o.book k ∷ []) g.rest) es h

  -- the book that the bytes before leave keeps the rules
  proper_before : (k : Command) → Encodable k → (o : Outcome) → ComesTo t c k o → Proper o.book
  proper_before k ok o a =
      let g = grown k ok o a in
      let b : o.book ≡ after_all (book_of t) o.turns = subst (λ (p : Outcome). p.book ≡ after_all (book_of t) p.turns) a.so_far (run_book a.before (length c.report) (book_of t)) in
      rw b (proper_then o.turns (turn_of o.book k) g.rest (g.turns ∙ append_assoc o.turns (turn_of o.book k ∷ []) g.rest))

  -- a leg on the grid whose list a command asks for
  gives : (k : Command) → Encodable k → (l : Leg) (o : Outcome) → ComesTo t c k o → LegOnGrid l
      → answer o.book k ≡ listed (shown_by o.book k (split_of l (sites_of o.book))) → GivesList c k l o
  gives k ok l o a on h = (
    list_right o.book (proper_before k ok o a) l on (split_of l (sites_of o.book)) refl,
    given k ok o a (shown_by o.book k (split_of l (sites_of o.book))) h,
  )

  -- the next leg of a tour
  given_corner : (p : Position) (k : Tour) (o : Outcome) → ComesTo t c (Corner p) o → o.book.tour ≡ Some k → OnGrid p → sites_of o.book ≢ []
      → GivesList c (Corner p) (leg_to k p) o
  given_corner p k o a e on held =
      let ok : Encodable (Corner p) = small p on in
      let fits : TourFits k (sites_of o.book) = subst (λ (x : Option Tour). TourOk x (sites_of o.book)) e (proper_before (Corner p) ok o a).tour_ok in
      gives (Corner p) ok (leg_to k p) o a (record { s = fits.on_grid; e = on })
      (answer_corner_done o.book p k e on (held_some (sites_of o.book) held)
      ∙ ap (λ (x : Option Tour). listed (left_out (remembered x) (split_of (leg_to k p) (sites_of o.book)))) (sym e))

  -- DEMAND 2
  pub demand2 : Demand2 t c
  demand2 =
      record {
        right = right_is;
        given = λ l o a on held. gives (ListOf l) (list_encodable l on) l o a on (list_answer o.book l on held);
        given_standing = λ l o a e held.
            gives Print tt l o a (subst LegOk e (proper_before Print tt o a).leg_ok) (answer_print_done o.book l e (held_some (sites_of o.book) held));
        given_corner = given_corner;
      }
