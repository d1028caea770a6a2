-- The calls on a damaged table: the theorem on faults, cited for them.
-- Assumes nothing.
use mathlib.Core.Path.{◌≡◌, sym, ap, subst, ◌∙◌}
use mathlib.Core.List.{List, [], ◌∷◌}
use Rattle.std.specs.Prelude.{None, Some}
use Prim.Native.Nat.{ℕ, ◌≤◌}
use native.Mathlib.Omega.{arith}
use lib.ListN.{length, take}
use Rattle.limits.specs.Limits.{table_bytes, work_bytes}
use Rattle.words.specs.Words.{put_word}
use Rattle.words.proofs.Frame.{only_put_word}
use Rattle.split.specs.Legs.{ten}
use Rattle.book.specs.declared.Reason.{Reason}
use Rattle.book.specs.declared.BatchResult.{BatchResult}
use Rattle.book.specs.Numbers.{reason_number}
use Rattle.book.specs.Book.{Book, empty_book, standing_list}
use Rattle.table_empty.specs.EmptyTable.{empty_table}
use Rattle.table_empty.proofs.EmptyTree.{empty_length}
use Rattle.demands.specs.Batch.{returns, return_of, LaidOut}
use Rattle.demands.specs.Whole.{Ask, MadeOn, book_after, book_of_run}
use Rattle.demands.specs.Whole.Made.{none as no_call, next}
use Rattle.demands.proofs.Demand1.{demand1_laid}
use Rattle.demands.proofs.Faults.{laid_length, laid_both, laid_zero, ran_length, ran_leg}
use Rattle.replay.specs.declared.Heard.{Heard}
use Rattle.replay.specs.Replayed.{ask, Called, print_alone, stand_ten, reply, said_in, length_hit, LengthHit, Stood}
use Rattle.replay.proofs.Computed.{stood_book, no_entry_lem}

-- a call that was refused with n said so
refused_said : (n : ℕ) (a : Heard 2) → return_of a.result ≡ returns n 0 0 → said_in a ≡ reply n 0 []
refused_said n a q = λ i.
    record { reason = (q i).reason; used = (q i).used; written = (q i).written; bytes = take (q i).written a.report }

-- the work buffer of a call
work_is : (cs : List ℕ) (r : BatchResult) (t t' rep' : List ℕ) (h : Called (ask work_bytes cs 2) r t t' rep') → length h.call.work ≡ work_bytes
work_is cs r t t' rep' h = ap (λ (k : Ask). k.work) h.asked_so

-- ---- on a table just laid out

module _ (t t₁ : List ℕ) (x : Reason) (l : LaidOut t (reason_number x) t₁) (e : length t ≡ table_bytes) (t₂ t₃ : List ℕ) (a : Heard 2)
    (c : Called (ask work_bytes print_alone 2) a.result t₂ t₃ a.report) where
  laid : t₁ ≡ empty_table
  laid = ((demand1_laid t (reason_number x) t₁ l).laid e).1

  made : (i n : ℕ) → t₂ ≡ put_word t₁ i n → MadeOn (put_word empty_table i n) c.call t₃
  made i n h = subst (λ (y : List ℕ). MadeOn y c.call t₃) (h ∙ ap (λ (y : List ℕ). put_word y i n) laid) c.made

  pub length_hit_lem : t₂ ≡ put_word t₁ 12 65535 → LengthHit a t₃
  length_hit_lem h =
      let f = laid_length c.call t₃ (work_is print_alone a.result t₂ t₃ a.report c) (made 12 65535 h) in
      record { told = refused_said 69 a (sym c.result ∙ f.0); left = f.1 }

  pub zeros_hit : t₂ ≡ put_word t₁ 4 1 → said_in a ≡ reply 65 0 []
  zeros_hit h =
      refused_said 65 a (sym c.result ∙ (laid_zero c.call t₃ (work_is print_alone a.result t₂ t₃ a.report c) (made 4 1 h)).0)

-- and on that with a wrong length
pub flag_hit : (t : List ℕ) → t ≡ length_hit → (t₁ t₂ : List ℕ) (a : Heard 2) → t₁ ≡ put_word t 2 2
    → Called (ask work_bytes print_alone 2) a.result t₁ t₂ a.report → said_in a ≡ reply 65 0 []
flag_hit t e t₁ t₂ a h c =
    let hit : t₁ ≡ put_word length_hit 2 2 = h ∙ ap (λ (y : List ℕ). put_word y 2 2) e in
    refused_said 65 a
    (sym c.result
    ∙ (laid_both c.call t₂ (work_is print_alone a.result t₁ t₂ a.report c) (subst (λ (y : List ℕ). MadeOn y c.call t₂) hit c.made)).0)

-- it is long enough
pub hit_long : (t : List ℕ) → t ≡ length_hit → 4 ≤ length t
hit_long t e = omega (arith, ap length e, (only_put_word empty_table 12 65535).len, empty_length)

-- ---- on a table with a standing leg

pub stood : (t t₁ : List ℕ) (x : Reason) → LaidOut t (reason_number x) t₁ → length t ≡ table_bytes → (t₂ : List ℕ) (a : Heard 2)
    → Called (ask work_bytes stand_ten 2) a.result t₁ t₂ a.report → Stood t₂
stood t t₁ x l e t₂ a c =
    record {
      calls = c.call ∷ [];
      ran = record {
        before = t;
        laid_table = t₁;
        laid = subst (λ (n : ℕ). LaidOut t n t₁) ((demand1_laid t (reason_number x) t₁ l).laid e).0 l;
        made = next c.made no_call;
      };
      asks = ap (λ (k : Ask). k ∷ []) c.asked_so;
    }

module _ (t : List ℕ) (s : Stood t) (t₁ t₂ : List ℕ) (a : Heard 2) (c : Called (ask work_bytes print_alone 2) a.result t₁ t₂ a.report) where
  book : book_of_run s.calls ≡ record { lines = []; leg = Some ten; tour = None }
  book = ap (book_after empty_book) s.asks ∙ stood_book

  work : length c.call.work ≡ work_bytes
  work = work_is print_alone a.result t₁ t₂ a.report c

  pub leg_hit : t₁ ≡ put_word t 4 24001 → said_in a ≡ reply 69 0 []
  leg_hit h =
      refused_said 69 a
      (sym c.result
      ∙ (ran_leg c.call t₂ work s.calls t s.ran ten (ap (λ (b : Book). b.leg) book) 0 (omega arith) (subst (λ (y : List ℕ). MadeOn y c.call t₂) h c.made)).0.0)

  pub siteless_hit : t₁ ≡ put_word t 12 1 → said_in a ≡ reply 69 0 []
  siteless_hit h =
      let none_listed : length (standing_list (book_of_run s.calls)) ≡ 0 = ap (λ (b : Book). length (standing_list b)) book ∙ ap length no_entry_lem in
      refused_said 69 a
      (sym c.result
      ∙ (ran_length c.call t₂ work s.calls t s.ran 1 (λ z. omega (arith, z, none_listed)) (subst (λ (y : List ℕ). MadeOn y c.call t₂) h c.made)).0)
