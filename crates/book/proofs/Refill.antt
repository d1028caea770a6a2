-- A fresh book that is given a book's sites, in any order and cut into any batches, has the book's lines.
-- Assumes nothing.
use mathlib.Core.Path.{◌≡◌, refl, sym, ap, ◌∙◌, subst⁻¹}
use mathlib.Core.Bool.{false}
use Rattle.std.specs.Prelude.{None}
use mathlib.Core.List.{List, [], ◌∷◌, ◌++◌, map, Memᴰ}
use Prim.Native.Nat.{ℕ, suc, ◌+◌, ◌≤◌}
use native.Mathlib.Omega.{arith}
use lib.ListN.{length}
use borrow.Author.Tests.{ne_eqb}
use Rattle.limits.specs.Limits.{max_sites}
use Rattle.grid.specs.declared.Site.{Site}
use Rattle.split.specs.SplitList.{SitesOnGrid}
use Rattle.readings.specs.declared.Location.TheVariants.{InSteps}
use Rattle.book.specs.declared.Command.{Command}
use Rattle.book.specs.declared.Command.TheVariants.{Add}
use Rattle.book.specs.declared.Reason.TheVariants.{AllUsed}
use Rattle.book.specs.Encode.{command_bytes, additions}
use Rattle.book.specs.Book.{Book, empty_book, write_line, holds, change}
use Rattle.book.specs.Proper.{NumberOk, Proper}
use Rattle.permutation.specs.Perm.{Perm}
use Rattle.book.specs.Reply.{done}
use Rattle.book.specs.Answer.{answer, after}
use Rattle.book.specs.Run.{Turn, records, Outcome, ends, run, after_all}
use Rattle.book.proofs.Lines.{write_length, holds_write}
use Rattle.book.proofs.Answers.{answer_add_done}
use Rattle.book.proofs.ReadBack.{all_bytes, AllEncodable, turns_of, run_commands}
use Rattle.permutation.proofs.Perms.{perm_member, perm_length}
use Rattle.book.proofs.Orders.{write_all, write_all_append, Apart, rising_apart, perm_apart, write_order}

-- a call of additions: its sites, and the report room
pub record Batch : Type 0 where
  pub sites : List Site
  pub room : ℕ

-- the sites of all calls, in turn
abbrev pub all_sites : List Batch → List Site
all_sites [] = []
all_sites (x ∷ xs) = x.sites ++ all_sites xs

-- every call has room for its records, a byte each
abbrev pub Roomy : List Batch → Type 0
Roomy [] = Unit {0}
Roomy (x ∷ xs) = (length x.sites ≤ x.room) × Roomy xs

-- an addition that is accepted
abbrev pub done_turn : Site → Turn
done_turn p = record { command = Add p.number (InSteps p.position); reply = done }

-- all of a call's additions are accepted
pub record AllDone (x : Batch) (o : Outcome) : Type 0 where
  pub reason : o.reason ≡ AllUsed
  pub used : o.used ≡ length (additions x.sites)
  pub turns : o.turns ≡ map done_turn x.sites

-- so it is in every call, one after the other from the book b
abbrev pub CallsDone : Book → List Batch → Type 0
CallsDone b [] = Unit {0}
CallsDone b (x ∷ xs) = AllDone x (run (additions x.sites) x.room b) × CallsDone (run (additions x.sites) x.room b).book xs

-- the book after the calls
abbrev pub after_calls : Book → List Batch → Book
after_calls b [] = b
after_calls b (x ∷ xs) = after_calls (run (additions x.sites) x.room b).book xs

-- a book without a leg and a tour
abbrev pub leg_free : List Site → Book
leg_free s = record { lines = s; leg = None; tour = None }

-- ---- one call

abbrev add_of : Site → Command
add_of p = Add p.number (InSteps p.position)

-- the sites s may be added to the lines a, one after the other
record Fillable (a s : List Site) : Type 0 where
  numbers : (p : Site) → Memᴰ p s → NumberOk p
  on_grid : SitesOnGrid s
  apart : Apart s
  new : (p : Site) → Memᴰ p s → holds p.number a ≡ false
  few : length a + length s ≤ max_sites

fillable_next : (a : List Site) (p : Site) (s : List Site) → Fillable a (p ∷ s) → Fillable (write_line p a) s
fillable_next a p s h =
    record {
      numbers = λ q m. h.numbers q (mathlib.Core.List.Memᴰ.tail m);
      on_grid = λ q m. h.on_grid q (mathlib.Core.List.Memᴰ.tail m);
      apart = h.apart.1;
      new = λ q m. rw (holds_write, ne_eqb p.number q.number (h.apart.0 q m)) (h.new q (mathlib.Core.List.Memᴰ.tail m));
      few = rw write_length (omega (arith, h.few));
    }

add_done : (a : List Site) (p : Site) (s : List Site) → Fillable a (p ∷ s) → answer (leg_free a) (Add p.number (InSteps p.position)) ≡ done
add_done a p s h =
    let m : Memᴰ p (p ∷ s) = mathlib.Core.List.Memᴰ.head refl in
    answer_add_done (leg_free a) p.number (InSteps p.position) (omega (arith, (h.numbers p m).least)) refl (h.on_grid p m) (h.new p m) (omega (arith, h.few))

-- the sites x were added, and the rest still may be
record Filled (a x rest : List Site) : Type 0 where
  turns : turns_of (leg_free a) (map add_of x) ≡ map done_turn x
  book : after_all (leg_free a) (turns_of (leg_free a) (map add_of x)) ≡ leg_free (write_all x a)
  onward : Fillable (write_all x a) rest

fill : (x rest a : List Site) → Fillable a (x ++ rest) → Filled a x rest
unfolding change
fill [] rest a h = record { turns = refl; book = refl; onward = h }
fill (p ∷ x) rest a h =
    let e : answer (leg_free a) (add_of p) ≡ done = add_done a p (x ++ rest) h in
    let r : Filled (write_line p a) x rest = fill x rest (write_line p a) (fillable_next a p (x ++ rest) h) in
    record {
      turns =
          (λ i. record { command = add_of p; reply = e i } ∷ turns_of (after (leg_free a) (add_of p) (e i)) (map add_of x))
          ∙ ap (λ (ts : List Turn). done_turn p ∷ ts) r.turns;
      book = (λ i. after_all (after (leg_free a) (add_of p) (e i)) (turns_of (after (leg_free a) (add_of p) (e i)) (map add_of x))) ∙ r.book;
      onward = r.onward;
    }

bytes_of : (x : List Site) → all_bytes (map add_of x) ≡ additions x
bytes_of [] = refl
bytes_of (p ∷ x) = ap (λ (y : List ℕ). command_bytes (Add p.number (InSteps p.position)) ++ y) (bytes_of x)

encodable : (x : List Site) → ((p : Site) → Memᴰ p x → NumberOk p) → SitesOnGrid x → AllEncodable (map add_of x)
encodable [] h g = tt
encodable (p ∷ x) h g =
    let m : Memᴰ p (p ∷ x) = mathlib.Core.List.Memᴰ.head refl in (
      (omega (arith, (h p m).most), record { east = omega (arith, (g p m).east); north = omega (arith, (g p m).north) }),
      encodable x (λ q k. h q (mathlib.Core.List.Memᴰ.tail k)) (λ q k. g q (mathlib.Core.List.Memᴰ.tail k)),
    )

-- a byte for each
done_length : (x : List Site) → length (records (map done_turn x)) ≡ length x
unfolding records
done_length [] = refl
done_length (p ∷ x) = ap suc (done_length x)

front_of : (x rest : List Site) (p : Site) → Memᴰ p x → Memᴰ p (x ++ rest)
front_of x rest p m = mathlib.Core.List.Memᴰ.append_left rest m

one_call : (x rest a : List Site) (room : ℕ) → Fillable a (x ++ rest) → length x ≤ room
    → run (additions x) room (leg_free a) ≡ ends AllUsed (length (additions x)) (map done_turn x) (leg_free (write_all x a))
one_call x rest a room h l =
    let r : Filled a x rest = fill x rest a h in
    let k : length (records (turns_of (leg_free a) (map add_of x))) ≤ room = rw r.turns (omega (arith, done_length x)) in
    let c : AllEncodable (map add_of x) = encodable x (λ p m. h.numbers p (front_of x rest p m)) (λ p m. h.on_grid p (front_of x rest p m)) in
    ap (λ (s : List ℕ). run s room (leg_free a)) (sym (bytes_of x))
    ∙ run_commands (map add_of x) room (leg_free a) c k
    ∙ (λ i. ends AllUsed (length (bytes_of x i)) (r.turns i) (r.book i))

-- ---- all calls

calls : (xs : List Batch) (a : List Site) → Fillable a (all_sites xs) → Roomy xs
    → CallsDone (leg_free a) xs × (after_calls (leg_free a) xs ≡ leg_free (write_all (all_sites xs) a))
calls [] a h l = (tt, refl)
calls (x ∷ xs) a h l =
    let e : run (additions x.sites) x.room (leg_free a) ≡ ends AllUsed (length (additions x.sites)) (map done_turn x.sites) (leg_free (write_all x.sites a)) =
    one_call x.sites (all_sites xs) a x.room h l.0 in
    let f : (run (additions x.sites) x.room (leg_free a)).book ≡ leg_free (write_all x.sites a) = ap (λ (o : Outcome). o.book) e in
    let r = calls xs (write_all x.sites a) (fill x.sites (all_sites xs) a h).onward l.1 in (
      (
        record { reason = ap (λ (o : Outcome). o.reason) e; used = ap (λ (o : Outcome). o.used) e; turns = ap (λ (o : Outcome). o.turns) e },
        subst⁻¹ (λ (b : Book). CallsDone b xs) f r.0,
      ),
      ap (λ (b : Book). after_calls b xs) f ∙ r.1 ∙ ap leg_free (sym (write_all_append x.sites (all_sites xs) a)),
    )

-- A FRESH BOOK GIVEN THE SITES, in any order and in any batches with room for a byte a site:
-- every call uses all its bytes, every addition is accepted, and the lines are the book's
pub refill : (b : Book) → Proper b → (xs : List Batch) → Perm (all_sites xs) b.lines → Roomy xs
    → CallsDone empty_book xs × (after_calls empty_book xs ≡ leg_free b.lines)
unfolding holds
refill b ok xs h l =
    let r = calls xs [] fillable l in
    (r.0, r.1 ∙ ap leg_free (write_order b.lines ok.rising h))
  where
    fillable : Fillable [] (all_sites xs)
    fillable =
        record {
          numbers = λ p m. ok.numbers p (perm_member h p m);
          on_grid = λ p m. ok.on_grid p (perm_member h p m);
          apart = perm_apart h (rising_apart b.lines ok.rising);
          new = λ p m. refl;
          few = omega (arith, ok.few, perm_length h);
        }
