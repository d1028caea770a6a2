-- Calls with receiver readings are answered as the same calls with the steps written out. Document 02, C-15.
-- Assumes nothing.
use mathlib.Core.Path.{◌≡◌, refl, sym, ap, ◌∙◌, subst⁻¹}
use mathlib.Core.List.{List, [], ◌∷◌, map}
use mathlib.Core.Bool.{Bool, true, false, cond}
use Prim.Native.Nat.{ℕ}
use lib.ListN.{length, take, drop}
use lib.Dec.{eqb}
use Rattle.limits.specs.Limits.{work_bytes}
use Rattle.book.specs.Numbers.{reason_number}
use Rattle.book.specs.declared.Reason.TheVariants.{WrongLength}
use Rattle.book.specs.Book.{Book}
use Rattle.book.specs.Run.{ends, run}
use Rattle.book.specs.WrittenOut.{written_bytes, AllFinite}
use Rattle.book.proofs.Written.{SameRun, same_run, written_nothing}
use Rattle.table_rules.specs.Table.{book_of}
use Rattle.demands.specs.Whole.{Call, Said, said, Ask, asked, taken, said_by, replies, replies_asking, book_after}
use Rattle.demands.specs.InSteps.{written_ask, FiniteCalls, used_written, said_written, LeftWritten, AskedInSteps, AnsweredInSteps}
use Rattle.demands.proofs.WholeRun.{all_calls}

-- ---- one call on the book

-- 64 uses nothing
same_wrong : (s : List ℕ) (b : Book) → SameRun s (ends WrongLength 0 [] b) (ends WrongLength 0 [] b)
same_wrong s b = record { reason = refl; written = refl; book = refl; used = ap length (sym written_nothing); left = refl }

same_call : (a : Ask) (b : Book) → AllFinite a.commands → SameRun a.commands (taken a b) (taken (written_ask a) b)
same_call a b f = go (eqb a.work work_bytes)
  where
    go : (q : Bool)
        → SameRun a.commands (cond q (run a.commands a.room b) (ends WrongLength 0 [] b))
        (cond q (run (written_bytes a.commands) a.room b) (ends WrongLength 0 [] b))
    go true = same_run a.commands a.room b f
    go false = same_wrong a.commands b

-- ---- all calls on the book

-- what is said to an ask with the steps written out, where y was said to the ask itself
abbrev in_steps : Ask → Said → Said
in_steps a y = record { reason = y.reason; used = length (written_bytes (take y.used a.commands)); written = y.written; bytes = y.bytes }

-- of each
abbrev all_in_steps : List Ask → List Said → List Said
all_in_steps [] ys = []
all_in_steps (a ∷ asks) [] = []
all_in_steps (a ∷ asks) (y ∷ ys) = in_steps a y ∷ all_in_steps asks ys

abbrev FiniteAsks : List Ask → Type 0
FiniteAsks [] = Unit {0}
FiniteAsks (a ∷ asks) = AllFinite a.commands × FiniteAsks asks

abbrev LeftAsks : List Ask → List Said → Type 0
LeftAsks [] ys = Unit {0}
LeftAsks (a ∷ asks) [] = Unit {0}
LeftAsks (a ∷ asks) (y ∷ ys) =
    (drop (length (written_bytes (take y.used a.commands))) (written_bytes a.commands) ≡ written_bytes (drop y.used a.commands))
    × LeftAsks asks ys

one_said : (a : Ask) (b : Book) → AllFinite a.commands → said_by (taken (written_ask a) b) ≡ in_steps a (said_by (taken a b))
one_said a b f =
    let x = same_call a b f in
    λ i. record {
      reason = reason_number (x.reason i);
      used = x.used i;
      written = length (x.written i);
      bytes = x.written i;
    }

all_said : (b : Book) (asks : List Ask) → FiniteAsks asks → replies b (map written_ask asks) ≡ all_in_steps asks (replies b asks)
unfolding replies_asking
all_said b [] f = refl
all_said b (a ∷ asks) f =
    let x = same_call a b f.0 in
    (λ i. one_said a b f.0 i ∷ replies (x.book i) (map written_ask asks))
    ∙ ap (λ (ys : List Said). in_steps a (said_by (taken a b)) ∷ ys) (all_said (taken a b).book asks f.1)

all_books : (b : Book) (asks : List Ask) → FiniteAsks asks → book_after b (map written_ask asks) ≡ book_after b asks
unfolding book_after
all_books b [] f = refl
all_books b (a ∷ asks) f = ap (λ (y : Book). book_after y (map written_ask asks)) (same_call a b f.0).book ∙ all_books (taken a b).book asks f.1

all_left : (b : Book) (asks : List Ask) → FiniteAsks asks → LeftAsks asks (replies b asks)
unfolding replies_asking
all_left b [] f = tt
all_left b (a ∷ asks) f =
    let x = same_call a b f.0 in
    (ap (λ (n : ℕ). drop n (written_bytes a.commands)) (sym x.used) ∙ x.left, all_left (taken a b).book asks f.1)

-- ---- real calls

finite_asks : (cs : List Call) → FiniteCalls cs → FiniteAsks (map asked cs)
finite_asks [] f = tt
finite_asks (c ∷ cs) f = (f.0, finite_asks cs f.1)

as_written : (cs : List Call) → all_in_steps (map asked cs) (map said cs) ≡ map said_written cs
as_written [] = refl
as_written (c ∷ cs) = ap (λ (ys : List Said). said_written c ∷ ys) (as_written cs)

as_left : (cs : List Call) → LeftAsks (map asked cs) (map said cs) → LeftWritten cs
as_left [] h = tt
as_left (c ∷ cs) h = (h.0, as_left cs h.1)

-- C-15, of all calls on any two sound tables of one book
pub in_steps_lem : (t u : List ℕ) (cs ds : List Call) (t' u' : List ℕ) → AskedInSteps t u cs ds t' u' → AnsweredInSteps cs ds t' u'
in_steps_lem t u cs ds t' u' a =
    let b = book_of t in
    let f = finite_asks cs a.all_finite in
    let x = all_calls t b (record { sound = a.sound.0; book = refl }) cs t' a.made.0 in
    let y = all_calls u b (record { sound = a.sound.1; book = sym a.book }) ds u' a.made.1 in
    record {
      said_as_written =
          y.0 ∙ ap (replies b) a.asked_written ∙ all_said b (map asked cs) f
          ∙ ap (all_in_steps (map asked cs)) (sym x.0) ∙ as_written cs;
      left_written = as_left cs (subst⁻¹ (LeftAsks (map asked cs)) x.0 (all_left b (map asked cs) f));
      sound = (x.1.sound, y.1.sound);
      book = x.1.book ∙ sym (all_books b (map asked cs) f) ∙ sym (ap (book_after b) a.asked_written) ∙ sym y.1.book;
    }

-- WHO ASKS AGAIN with what a call left asks the same, written out
pub rest_written : (t u : List ℕ) (c d : Call) (t' u' : List ℕ) → AskedInSteps t u (c ∷ []) (d ∷ []) t' u'
    → drop d.result.used d.commands ≡ written_bytes (drop c.result.used c.commands)
rest_written t u c d t' u' a =
    let r = in_steps_lem t u (c ∷ []) (d ∷ []) t' u' a in
    let used : d.result.used ≡ used_written c = ap (λ (y : List Said). first_used y) r.said_as_written in
    let bytes : d.commands ≡ written_bytes c.commands = ap (λ (y : List Ask). first_bytes y) a.asked_written in
    (λ i. drop (used i) (bytes i)) ∙ r.left_written.0
  where
    first_used : List Said → ℕ
    first_used [] = 0
    first_used (y ∷ ys) = y.used

    first_bytes : List Ask → List ℕ
    first_bytes [] = []
    first_bytes (y ∷ ys) = y.commands
