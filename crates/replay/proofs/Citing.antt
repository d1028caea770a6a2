-- The theorem, cited for the calls.
-- Assumes nothing.
use mathlib.Core.Path.{◌≡◌, refl, sym, ap, subst, ◌∙◌}
use mathlib.Core.Logic.{◌≢◌}
use mathlib.Core.Bool.{true, ◌&&◌}
use mathlib.Core.List.{List, [], ◌∷◌, ◌++◌, map, append-nil}
use Prim.Native.Nat.{ℕ}
use native.Mathlib.Omega.{arith}
use lib.ListN.{length, take, drop, take-append-drop}
use lib.Seq.{drop-length}
use borrow.Author.Tests.{eq-eqb}
use Rattle.limits.specs.Limits.{table_bytes, work_bytes}
use Rattle.grid.specs.declared.Site.{Site}
use Rattle.grid.specs.Coordinate.{to_word}
use Rattle.split.specs.Legs.{ten}
use Rattle.split.specs.SplitOf.{split_of}
use Rattle.records.specs.ListRecord.{record_bytes}
use Rattle.book.specs.declared.Reason.{Reason}
use Rattle.book.specs.declared.BatchResult.{BatchResult}
use Rattle.book.specs.Numbers.{reason_number}
use Rattle.book.specs.Book.{empty_book, sites_of}
use Rattle.permutation.specs.Perm.Perm.{swap}
use Rattle.book.specs.Reply.{record_of}
use Rattle.table_rules.specs.Table.{Sound}
use Rattle.table_rules.proofs.Books.{sound_len}
use Rattle.demands.specs.Batch.{return_of, lengths_ok, Batch, LaidOut}
use Rattle.demands.specs.Whole.{Call, Said, said, Ask, asked, Ran, replies, replies_asking, book_after, book_of_run, Asks, WroteReport}
use Rattle.demands.specs.Whole.Made.{none as no_call, next}
use Rattle.demands.specs.Whole.Filled.{none as no-ask, next as more-asks}
use Rattle.demands.specs.Demands.{list4_c, list_record, FreshOf}
use Rattle.demands.specs.WorkBuffer.{resized}
use Rattle.demands.proofs.WholeRun.{ran_holds, laid_holds}
use Rattle.demands.proofs.Legs.{list_answer}
use Rattle.demands.proofs.Demand1.{demand1, demand1_laid}
use Rattle.demands.proofs.Demand3.{demand3}
use Rattle.demands.proofs.WorkBuffer.{any_length}
use Rattle.replay.specs.declared.Heard.{Heard}
use Rattle.replay.specs.declared.Row.{Row}
use Rattle.replay.specs.Replayed.{ask, Called, add_both, add_unknown, remove_cut, list_ten, add_two, add_one, site_two, site_one, end_asks, end_replies, ten_bytes, said_in, said_of, Opened, Closed, Refilled, AskedTen, Replayed}
use Rattle.replay.proofs.Computed.{end_replies_lem, end_lines, ten_list, ten_on}

-- ---- one call

pub called : (n : ℕ) (t w cs rep t' w' rep' : List ℕ) (r : BatchResult) → length w ≡ n → Batch t w cs rep (return_of r) t' w' rep' → Called (ask n cs (length rep)) r t t' rep'
called n t w cs rep t' w' rep' r e b =
    record {
      call = record { work = w; commands = cs; report = rep; result = return_of r; work_after = w'; report_after = rep' };
      made = b;
      asked_so = ap (λ (k : ℕ). ask k cs (length rep)) e;
      result = refl;
      report = refl;
    }

-- with buffers of such lengths
pub heard : (n m : ℕ) (t w cs rep t' w' rep' : List ℕ) (r : BatchResult) → length w ≡ n → length rep ≡ m → Batch t w cs rep (return_of r) t' w' rep' → Called (ask n cs m) r t t' rep'
heard n m t w cs rep t' w' rep' r e f b = subst (λ (k : ℕ). Called (ask n cs k) r t t' rep') f (called n t w cs rep t' w' rep' r e b)

-- what it said
pub called_said : {n : ℕ} (a : Ask) (r : Heard n) (t t' : List ℕ) (h : Called a r.result t t' r.report) → said h.call ≡ said_in r
called_said a r t t' h = λ i.
    record { reason = (h.result i).reason; used = (h.result i).used; written = (h.result i).written; bytes = take (h.result i).written (h.report i) }

-- the leg
pub asked_ten : (t t' rep' : List ℕ) (r : BatchResult) → Called (ask work_bytes list_ten 23) r t t' rep' → AskedTen t rep' t'
unfolding to_word
asked_ten t t' rep' r h =
    record {
      call = h.call;
      asks = record { made = h.made; commands = ap (λ (a : Ask). a.commands) h.asked_so; work = ap (λ (a : Ask). a.work) h.asked_so };
      room = ap (λ (a : Ask). a.room) h.asked_so;
      report = h.report;
    }

-- ---- a row of them, on a table just laid out

module _ (t t₁ : List ℕ) (x : Reason) (l : LaidOut t (reason_number x) t₁) (e : length t ≡ table_bytes) where
  laid : LaidOut t 0 t₁
  laid = subst (λ (n : ℕ). LaidOut t n t₁) ((demand1_laid t (reason_number x) t₁ l).laid e).0 l

  pub opened : (t₂ t₃ : List ℕ) (a b : Heard 2) → Called (ask 1 add_both 2) a.result t₁ t₂ a.report → Called (ask work_bytes add_both 2) b.result t₂ t₃ b.report
      → Opened (record { short = a; used = b }) t₃
  opened t₂ t₃ a b x y = record { before = t; table = t₁; laid = laid; between = t₂; short = x; used = y }

  pub refilled : (t₂ t₃ : List ℕ) (r₁ r₂ : Heard 2) → Called (ask work_bytes add_two 2) r₁.result t₁ t₂ r₁.report → Called (ask work_bytes add_one 2) r₂.result t₂ t₃ r₂.report
      → Refilled t₃
  unfolding to_word
  refilled t₂ t₃ r₁ r₂ a b =
      record {
        calls = a.call ∷ b.call ∷ [];
        ran = record { before = t; laid_table = t₁; laid = laid; made = next a.made (next b.made no_call) };
        filled =
            rw (a.asked_so, b.asked_so)
            (more-asks {a = ask work_bytes add_two 2} (site_two ∷ []) refl refl (omega arith) (more-asks {a = ask work_bytes add_one 2} (site_one ∷ []) refl refl (omega arith) no-ask));
      }

pub closed : (t t₂ t₃ t' : List ℕ) (a b c : Heard 2) → Called (ask work_bytes add_unknown 2) a.result t t₂ a.report → Called (ask work_bytes remove_cut 2) b.result t₂ t₃ b.report
    → Called (ask work_bytes list_ten 2) c.result t₃ t' c.report → Closed (record { unknown = a; cut = b; full = c }) t t'
closed t t₂ t₃ t' a b c x y z = record { second = t₂; third = t₃; unknown = x; cut = y; full = z }

-- ---- the theorem

-- a report of just the length of the record is the record
report_is : (t : List ℕ) → Sound t → (x : Call) (t' bytes : List ℕ) → Asks t (list4_c ten) x t' → length x.report ≡ length bytes → WroteReport x bytes → x.report_after ≡ bytes
report_is t s x t' bytes a e w =
    let ok : lengths_ok t x.work ≡ true = λ i. eq-eqb (length t) table_bytes (sound_len t s) i && eq-eqb (length x.work) work_bytes a.work i in
    let k = (demand1 t x t' a.made).taken ok s in
    let n : x.result.written ≡ length bytes = ap (λ (y : Said). y.written) w in
    sym (take-append-drop x.result.written x.report_after)
    ∙ (λ i. ap (λ (y : Said). y.bytes) w i ++ (k.past ∙ ap (λ (m : ℕ). drop m x.report) (n ∙ sym e) ∙ drop-length x.report) i)
    ∙ append-nil bytes

module _ (r : Row) (t₁ t₂ t₃ u₁ u₂ : List ℕ) (o : Opened r.opening t₁) (k : Closed r.closing t₁ t₂) (c : AskedTen t₂ r.ours t₃) (f : Refilled u₁)
    (d : AskedTen u₁ r.theirs u₂) where
  calls : List Call
  calls = o.short.call ∷ o.used.call ∷ k.unknown.call ∷ k.cut.call ∷ k.full.call ∷ []

  ran : Ran calls t₂
  unfolding calls
  ran =
      record {
        before = o.before;
        laid_table = o.table;
        laid = o.laid;
        made = next o.short.made (next o.used.made (next k.unknown.made (next k.cut.made (next k.full.made no_call))));
      }

  asks : map asked calls ≡ end_asks
  unfolding calls
  asks = λ i. o.short.asked_so i ∷ o.used.asked_so i ∷ k.unknown.asked_so i ∷ k.cut.asked_so i ∷ k.full.asked_so i ∷ []

  told : map said calls ≡ said_of r.opening r.closing
  unfolding calls
  told = λ i.
      called_said _ r.opening.short _ _ o.short i
      ∷ called_said _ r.opening.used _ _ o.used i
      ∷ called_said _ r.closing.unknown _ _ k.unknown i
      ∷ called_said _ r.closing.cut _ _ k.cut i
      ∷ called_said _ r.closing.full _ _ k.full i
      ∷ []

  replies_are : said_of r.opening r.closing ≡ end_replies
  replies_are = sym told ∙ (demand3 calls t₂ ran).answers ∙ ap (replies empty_book) asks ∙ end_replies_lem

  -- and those of any other work buffer
  any_length_are : (n : ℕ) → said_of r.opening r.closing ≡ replies_asking n empty_book (map (resized n) end_asks)
  any_length_are n =
      sym told
      ∙ any_length ran.laid_table empty_book (laid_holds ran.before ran.laid_table ran.laid) calls t₂ ran.made n
      ∙ ap (λ (a : List Ask). replies_asking n empty_book (map (resized n) a)) asks

  two_lines : (book_of_run calls).lines ≡ site_one ∷ site_two ∷ []
  two_lines = ap (λ (a : List Ask). (book_after empty_book a).lines) asks ∙ end_lines

  ten_is : record_bytes (split_of ten (sites_of (book_of_run calls))) ≡ ten_bytes
  ten_is = ap (λ (s : List Site). record_bytes (split_of ten s)) two_lines ∙ ten_list

  held : sites_of (book_of_run calls) ≢ []
  held e = let z : ◌≡◌ {A = ℕ} 2 0 = ap length (sym two_lines ∙ e) in omega arith

  wrote_ours : WroteReport c.call ten_bytes
  wrote_ours =
      subst (λ (y : List ℕ). WroteReport c.call y) ten_is
      ((demand3 calls t₂ ran).lists ten ten_on held c.call t₃ c.asks (omega (arith, ap length ten_is, c.room))).0

  fresh_of : FreshOf (book_of_run calls) f.calls
  fresh_of = record { order = site_two ∷ site_one ∷ []; filled = f.filled; perm = rw two_lines swap }

  same : said c.call ≡ said d.call
  same =
      let e : list_record (book_of_run calls) ten ≡ ten_bytes = ap record_of (list_answer (book_of_run calls) ten ten_on held) ∙ ten_is in
      (demand3 calls t₂ ran).fresh f.calls u₁ f.ran fresh_of ten ten_on c.call d.call t₃ u₂ c.asks d.asks
      (omega (arith, ap length e, c.room)) (omega (arith, ap length e, d.room))

  wrote_theirs : WroteReport d.call ten_bytes
  wrote_theirs =
      sym same ∙ wrote_ours
      ∙ (λ i. record { reason = 0; used = length ((c.asks.commands ∙ sym d.asks.commands) i); written = length ten_bytes; bytes = ten_bytes })

  -- THE CALLS
  pub replayed : Replayed r
  replayed =
      let x : r.ours ≡ ten_bytes = sym c.report ∙ report_is t₂ (ran_holds calls t₂ ran).sound c.call t₃ ten_bytes c.asks c.room wrote_ours in
      let y : r.theirs ≡ ten_bytes = sym d.report ∙ report_is u₁ (ran_holds f.calls u₁ f.ran).sound d.call u₂ ten_bytes d.asks d.room wrote_theirs in
      record { replies = replies_are; any_length = any_length_are; ours = x; theirs = y ∙ sym x }
