-- The book's answers, from what the tests find: one law for each return.
-- Assumes nothing.
use mathlib.Core.Path.{◌≡◌, refl, sym, ap, subst, subst⁻¹, ◌∙◌}
use mathlib.Core.Logic.{◌≢◌}
use mathlib.Core.Bool.{Bool, true, false, cond}
use mathlib.Core.List.{List}
use Prim.Native.Nat.{ℕ, ◌<◌, ◌≤◌}
use native.Mathlib.Omega.{arith}
use Rattle.limits.specs.Limits.{max_sites}
use Rattle.grid.specs.declared.Position.{Position}
use Rattle.grid.specs.declared.Site.{Site}
use Rattle.grid.specs.declared.Leg.{Leg}
use Rattle.grid.specs.Position.{OnGrid, LegOnGrid}
use Rattle.grid.specs.Says.{Says}
use Rattle.grid.proofs.Says.{says_yes, says_no}
use Rattle.readings.specs.declared.Location.{Location}
use Rattle.readings.specs.declared.Location.TheVariants.{InSteps}
use Rattle.readings.specs.Location.{finite_in, placed, located_at}
use Rattle.book.specs.declared.Cause.{Cause}
use Rattle.book.specs.declared.Cause.TheVariants.{NumberZero, OffGrid, Held, NotHeld, Full, NoSite, NoLeg, NoTour, NotFinite}
use Rattle.book.specs.declared.Command.{Command}
use Rattle.book.specs.declared.Command.TheVariants.{Add, Remove, Move, List as ListOf, Stand, Print}
use Rattle.book.specs.Book.{sites_of}
use Rattle.book.specs.Proper.{LegOk, NumberOk}
use Rattle.book.specs.Reply.{refused, listed}
use Rattle.book.specs.Answer.{answer}
use Rattle.book.proofs.Answers.{answer_add_zero, answer_add_not_finite, answer_add_off, answer_add_held, answer_add_full, answer_add_done, answer_remove_zero, answer_remove_absent, answer_remove_done, answer_move_zero, answer_move_not_finite, answer_move_off, answer_move_absent, answer_move_done, answer_list_off, answer_list_empty, answer_list_done, answer_stand_off, answer_stand_done, answer_print_legless, answer_print_empty, answer_print_done, same_add, same_move}
use Rattle.split.specs.SplitOf.{split_of}
use Rattle.table_header.specs.Header.{count_in, leg_in}
use Rattle.std.specs.Prelude.{Option, None, Some, Result, Ok, Err, ok_or}
use Rattle.table_sites.specs.Lines.{lines_in, FoundAs}
use Rattle.table_sites.proofs.Reading.{lines_length}
use Rattle.table_sites.proofs.Finding.{found_at, found_absent, at_held, absent_held}
use Rattle.table_rules.specs.Table.{book_of, Sound}
use Rattle.table_rules.specs.Listing.{ListsTable}
use Rattle.call_judge.specs.declared.Answer.{Answer}
use Rattle.call_judge.specs.declared.Verdict.{Verdict}
use Rattle.call_judge.specs.Verdict.{answer_of, IsOn, Decided, Settled, BadFor, GoodFor, TestedAs}

-- ---- a refusal

module _ (b : List ℕ) (c : Command) where
  pub refusal : (x : Cause) → answer (book_of b) c ≡ refused x → (w : List ℕ) → Decided (Err x) c b w
  refusal x e w = record { judged = record { said = sym e; row = tt }; found = tt; command = tt }

  pub refused_so_lem : (x : Cause) → answer (book_of b) c ≡ refused x → Settled (Err x) c b
  refused_so_lem x e = record { decided = refusal x e }

-- ---- the tests of a number and a position

-- where a location is
abbrev WhereIs : Option Position → Location → Type 0
WhereIs None l = finite_in l ≡ false
WhereIs (Some p) l = (finite_in l ≡ true) × (p ≡ placed l)

located_where : (l : Location) → WhereIs (located_at l) l
unfolding located_at
located_where l = go (finite_in l) refl
  where
    go : (q : Bool) → finite_in l ≡ q → WhereIs (cond q (Some (placed l)) None) l
    go true e = (e, refl)
    go false e = e

module _ (n : ℕ) (l : Location) (d : Option Position) (is : d ≡ located_at l) (r : Result Position Cause) (or : r ≡ ok_or d NotFinite) (z : n ≢ 0) where
  where_is : WhereIs d l
  where_is = subst⁻¹ (λ (y : Option Position). WhereIs y l) is (located_where l)

  pub test_not_finite : (x : Cause) → r ≡ Err x → TestedAs (Err x) n l
  test_not_finite x e = go d where_is (sym or ∙ e)
    where
      go : (d : Option Position) → WhereIs d l → ok_or d NotFinite ≡ Err x → TestedAs (Err x) n l
      go None w q = let y : NotFinite ≡ x = cc in subst (λ (y : Cause). BadFor y n l) y (z, w)
      go (Some p) w q = absurd (let y : ◌≡◌ {A = ℕ} 0 1 = cc in omega arith)

  module _ (p : Position) (e : r ≡ Ok p) (q : Bool) (s : Says q (OnGrid p)) where
    at : (finite_in l ≡ true) × (p ≡ placed l)
    at = go d where_is (sym or ∙ e)
      where
        go : (d : Option Position) → WhereIs d l → ok_or d NotFinite ≡ Ok p → (finite_in l ≡ true) × (p ≡ placed l)
        go None w q = absurd (let y : ◌≡◌ {A = ℕ} 0 1 = cc in omega arith)
        go (Some k) w q = let y : p ≡ k = cc in (w.0, y ∙ w.1)

    pub test_off : q ≡ false → TestedAs (Err OffGrid) n l
    test_off g = (z, at.0, subst (λ (y : Position). ¬ OnGrid y) at.1 (says_no q s g))

    pub test_good : n < 65536 → q ≡ true → TestedAs (Ok (record { number = n; position = p })) n l
    test_good small g =
        record {
          site = λ i. record { number = n; position = at.1 i };
          number = record { least = omega arith; most = omega arith };
          on_grid = says_yes q s g;
          is_finite = at.0;
        }

-- what the site's verdict is, the command's is
module _ (n : ℕ) (l : Location) (f : finite_in l ≡ true) (b : List ℕ) where
  on_add : (v : Result Verdict Cause) → IsOn v (Add n (InSteps (placed l))) → IsOn v (Add n l)
  on_add (Err x) h = tt
  on_add (Ok (Verdict.Show m k)) h = h
  on_add (Ok (Verdict.Insert k p)) h = h
  on_add (Ok (Verdict.Delete k m)) h = absurd (let y : ◌≡◌ {A = ℕ} 0 1 = cc in omega arith)
  on_add (Ok (Verdict.Place k p)) h = absurd (let y : ◌≡◌ {A = ℕ} 0 1 = cc in omega arith)
  on_add (Ok (Verdict.Stand m)) h = absurd (let y : ◌≡◌ {A = ℕ} 0 1 = cc in omega arith)
  on_add (Ok (Verdict.Begin p)) h = absurd (let y : ◌≡◌ {A = ℕ} 0 1 = cc in omega arith)
  on_add (Ok (Verdict.Follow m j k i)) h = absurd (let y : ◌≡◌ {A = ℕ} 0 1 = cc in omega arith)

  on_move : (v : Result Verdict Cause) → IsOn v (Move n (InSteps (placed l))) → IsOn v (Move n l)
  on_move (Err x) h = tt
  on_move (Ok (Verdict.Show m k)) h = h
  on_move (Ok (Verdict.Insert k p)) h = absurd (let y : ◌≡◌ {A = ℕ} 0 1 = cc in omega arith)
  on_move (Ok (Verdict.Delete k m)) h = absurd (let y : ◌≡◌ {A = ℕ} 0 1 = cc in omega arith)
  on_move (Ok (Verdict.Place k p)) h = h
  on_move (Ok (Verdict.Stand m)) h = absurd (let y : ◌≡◌ {A = ℕ} 0 1 = cc in omega arith)
  on_move (Ok (Verdict.Begin p)) h = absurd (let y : ◌≡◌ {A = ℕ} 0 1 = cc in omega arith)
  on_move (Ok (Verdict.Follow m j k i)) h = absurd (let y : ◌≡◌ {A = ℕ} 0 1 = cc in omega arith)

  settled_add : (v : Result Verdict Cause) → Settled v (Add n (InSteps (placed l))) b → Settled v (Add n l) b
  settled_add v h =
      record {
        decided = λ w. record {
          judged = record { said = (h.decided w).judged.said ∙ sym (same_add (book_of b) n l f (placed l) refl); row = (h.decided w).judged.row };
          found = (h.decided w).found;
          command = on_add v (h.decided w).command;
        };
      }

  settled_move : (v : Result Verdict Cause) → Settled v (Move n (InSteps (placed l))) b → Settled v (Move n l) b
  settled_move v h =
      record {
        decided = λ w. record {
          judged = record { said = (h.decided w).judged.said ∙ sym (same_move (book_of b) n l f (placed l) refl); row = (h.decided w).judged.row };
          found = (h.decided w).found;
          command = on_move v (h.decided w).command;
        };
      }

module _ (n : ℕ) (l : Location) (r : Result Site Cause) (h : TestedAs r n l) where
  bad : (x : Cause) → r ≡ Err x → BadFor x n l
  bad x e = subst (λ (y : Result Site Cause). TestedAs y n l) e h

  module _ (s : Site) (e : r ≡ Ok s) where
    good : GoodFor s n l
    good = subst (λ (y : Result Site Cause). TestedAs y n l) e h

    pub good_number : NumberOk s
    good_number = good.number

    pub good_grid : OnGrid s.position
    good_grid = good.on_grid

    pub good_add : (b : List ℕ) (v : Result Verdict Cause) → Settled v (Add s.number (InSteps s.position)) b → Settled v (Add n l) b
    good_add b v x = settled_add n l good.is_finite b v (subst (λ (y : Site). Settled v (Add y.number (InSteps y.position)) b) good.site x)

    pub good_move : (b : List ℕ) (v : Result Verdict Cause) → Settled v (Move s.number (InSteps s.position)) b → Settled v (Move n l) b
    good_move b v x = settled_move n l good.is_finite b v (subst (λ (y : Site). Settled v (Move y.number (InSteps y.position)) b) good.site x)

  module _ (b : List ℕ) where
    pub bad_add : (x : Cause) → r ≡ Err x → Settled (Err x) (Add n l) b
    bad_add x e = refused_so_lem b (Add n l) x (go x (bad x e))
      where
        go : (y : Cause) → BadFor y n l → answer (book_of b) (Add n l) ≡ refused y
        go NumberZero k = answer_add_zero (book_of b) n l k
        go NotFinite k = answer_add_not_finite (book_of b) n l k.0 k.1
        go OffGrid k = answer_add_off (book_of b) n l k.0 k.1 k.2
        go Held k = absurd k
        go NotHeld k = absurd k
        go Full k = absurd k
        go NoSite k = absurd k
        go NoLeg k = absurd k
        go NoTour k = absurd k

    pub bad_move : (x : Cause) → r ≡ Err x → Settled (Err x) (Move n l) b
    bad_move x e = refused_so_lem b (Move n l) x (go x (bad x e))
      where
        go : (y : Cause) → BadFor y n l → answer (book_of b) (Move n l) ≡ refused y
        go NumberZero k = answer_move_zero (book_of b) n l k
        go NotFinite k = answer_move_not_finite (book_of b) n l k.0 k.1
        go OffGrid k = answer_move_off (book_of b) n l k.0 k.1 k.2
        go Held k = absurd k
        go NotHeld k = absurd k
        go Full k = absurd k
        go NoSite k = absurd k
        go NoLeg k = absurd k
        go NoTour k = absurd k

-- ---- changes of sites

-- a record that was found, or before which a number goes, is one of so many
module _ (b : List ℕ) (n : ℕ) (f : Result ℕ ℕ) (k : ℕ) (t : Sound b) (a : FoundAs f n (lines_in b)) where
  pub at_few : f ≡ Ok k → k ≤ max_sites
  at_few e = omega (arith, (found_at {k = k} e a).line, lines_length b, t.whole.sites.few)

  pub absent_few : f ≡ Err k → k ≤ max_sites
  absent_few e = omega (arith, (found_absent {k = k} e a).within, lines_length b, t.whole.sites.few)

module _ (b : List ℕ) (n : ℕ) where
  pub remove_zero : n ≡ 0 → Settled (Err NumberZero) (Remove n) b
  remove_zero z = refused_so_lem b (Remove n) NumberZero (answer_remove_zero (book_of b) n z)

  module _ (f : Result ℕ ℕ) (k : ℕ) (z : n ≢ 0) (a : FoundAs f n (lines_in b)) where
    pub remove_absent : f ≡ Err k → Settled (Err NotHeld) (Remove n) b
    remove_absent e = refused_so_lem b (Remove n) NotHeld (answer_remove_absent (book_of b) n z (absent_held (found_absent e a)))

    pub remove_done : (r : ℕ) → f ≡ Ok k → r ≡ k → Settled (Ok (Verdict.Delete r n)) (Remove n) b
    remove_done r e q =
        subst⁻¹ (λ (x : ℕ). Settled (Ok (Verdict.Delete x n)) (Remove n) b) q
        (record {
          decided = λ w. record {
            judged = record { said = sym (answer_remove_done (book_of b) n z (at_held (found_at e a))); row = tt };
            found = found_at e a;
            command = refl;
          };
        })

module _ (b : List ℕ) (s : Site) (ok : NumberOk s) (on : OnGrid s.position) (f : Result ℕ ℕ) (k : ℕ) (a : FoundAs f s.number (lines_in b)) where
  positive : s.number ≢ 0
  positive z = omega (arith, ok.least)

  pub add_held_lem : f ≡ Ok k → Settled (Err Held) (Add s.number (InSteps s.position)) b
  add_held_lem e = refused_so_lem b (Add s.number (InSteps s.position)) Held (answer_add_held (book_of b) s.number (InSteps s.position) positive refl on (at_held (found_at e a)))

  pub add_full : (m : ℕ) → f ≡ Err k → m ≡ count_in b → m ≡ max_sites → Settled (Err Full) (Add s.number (InSteps s.position)) b
  add_full m e c x =
      refused_so_lem b (Add s.number (InSteps s.position)) Full
      (answer_add_full (book_of b) s.number (InSteps s.position) positive refl on (absent_held (found_absent e a)) (lines_length b ∙ sym c ∙ x))

  pub add_done : (m r : ℕ) → Sound b → f ≡ Err k → m ≡ count_in b → m ≢ max_sites → r ≡ k → Settled (Ok (Verdict.Insert r s)) (Add s.number (InSteps s.position)) b
  add_done m r t e c x q =
      subst⁻¹ (λ (y : ℕ). Settled (Ok (Verdict.Insert y s)) (Add s.number (InSteps s.position)) b) q
      (record {
        decided = λ w. record {
          judged = record {
            said = sym (answer_add_done (book_of b) s.number (InSteps s.position) positive refl on (absent_held (found_absent e a)) (λ l. x (c ∙ sym (lines_length b) ∙ l)));
            row = tt;
          };
          found = record { nowhere = found_absent e a; room = omega (arith, lines_length b, t.whole.sites.few); number = ok; on_grid = on };
          command = refl;
        };
      })

  pub move_absent_lem : f ≡ Err k → Settled (Err NotHeld) (Move s.number (InSteps s.position)) b
  move_absent_lem e =
      refused_so_lem b (Move s.number (InSteps s.position)) NotHeld (answer_move_absent (book_of b) s.number (InSteps s.position) positive refl on (absent_held (found_absent e a)))

  pub move_done : (r : ℕ) → f ≡ Ok k → r ≡ k → Settled (Ok (Verdict.Place r s)) (Move s.number (InSteps s.position)) b
  move_done r e q =
      subst⁻¹ (λ (y : ℕ). Settled (Ok (Verdict.Place y s)) (Move s.number (InSteps s.position)) b) q
      (record {
        decided = λ w. record {
          judged = record { said = sym (answer_move_done (book_of b) s.number (InSteps s.position) positive refl on (at_held (found_at e a))); row = tt };
          found = (found_at e a, on);
          command = refl;
        };
      })

-- ---- legs

-- a list in the row is shown
shown : (b w : List ℕ) (c : Command) (l : Leg) (k : ℕ) → LegOnGrid l → ListsTable l b w k
    → answer (book_of b) c ≡ listed (split_of l (sites_of (book_of b))) → IsOn (Ok (Verdict.Show l k)) c
    → Decided (Ok (Verdict.Show l k)) c b w
shown b w c l k on f e r = record { judged = record { said = ap listed f.list ∙ sym e; row = (on, f.held, omega arith) }; found = tt; command = r }

module _ (b : List ℕ) (l : Leg) (q : Bool) (s : Says q (LegOnGrid l)) where
  pub leg_yes : q ≡ true → LegOnGrid l
  leg_yes y = says_yes q s y

  pub list_off : (w : List ℕ) → q ≡ false → Decided (Err OffGrid) (ListOf l) b w
  list_off w e = refusal b (ListOf l) OffGrid (answer_list_off (book_of b) l (says_no q s e)) w

  pub list_none : (w : List ℕ) (m : ℕ) → q ≡ true → m ≡ count_in b → m ≡ 0 → Decided (Err NoSite) (ListOf l) b w
  list_none w m y c z = refusal b (ListOf l) NoSite (answer_list_empty (book_of b) l (says_yes q s y) (lines_length b ∙ sym c ∙ z)) w

  pub list_done : (w : List ℕ) (m k : ℕ) → q ≡ true → m ≡ count_in b → m ≢ 0 → ListsTable l b w k → Decided (Ok (Verdict.Show l k)) (ListOf l) b w
  list_done w m k y c z f = shown b w (ListOf l) l k (says_yes q s y) f (answer_list_done (book_of b) l (says_yes q s y) (λ x. z (c ∙ sym (lines_length b) ∙ x))) refl

  pub stand_off : q ≡ false → Settled (Err OffGrid) (Stand l) b
  stand_off e = refused_so_lem b (Stand l) OffGrid (answer_stand_off (book_of b) l (says_no q s e))

  pub stand_done : q ≡ true → Settled (Ok (Verdict.Stand l)) (Stand l) b
  stand_done e =
      record {
        decided = λ w. record { judged = record { said = sym (answer_stand_done (book_of b) l (says_yes q s e)); row = tt }; found = says_yes q s e; command = refl };
      }

-- ---- the standing list

module _ (b : List ℕ) (l : Leg) (e : leg_in b ≡ Some l) where
  pub stored_none : (w : List ℕ) (m : ℕ) → m ≡ count_in b → m ≡ 0 → Decided (Err NoSite) Print b w
  stored_none w m c z = refusal b Print NoSite (answer_print_empty (book_of b) l e (lines_length b ∙ sym c ∙ z)) w

  pub stored_done : (w : List ℕ) (m k : ℕ) → Sound b → m ≡ count_in b → m ≢ 0 → ListsTable l b w k → Decided (Ok (Verdict.Show l k)) Print b w
  stored_done w m k t c z f = shown b w Print l k (subst LegOk e t.standing.leg) f (answer_print_done (book_of b) l e (λ x. z (c ∙ sym (lines_length b) ∙ x))) refl

module _ (b : List ℕ) (o : Option Leg) (q : o ≡ leg_in b) (r : Result Leg Cause) (or : r ≡ ok_or o NoLeg) where
  pub print_unset : (w : List ℕ) (x : Cause) → r ≡ Err x → Decided (Err x) Print b w
  print_unset w x e = go o q (sym or ∙ e)
    where
      go : (o : Option Leg) → o ≡ leg_in b → ok_or o NoLeg ≡ Err x → Decided (Err x) Print b w
      go None q h = let y : NoLeg ≡ x = cc in subst (λ (c : Cause). Decided (Err c) Print b w) y (refusal b Print NoLeg (answer_print_legless (book_of b) (sym q)) w)
      go (Some k) q h = absurd (let y : ◌≡◌ {A = ℕ} 0 1 = cc in omega arith)

  pub print_along : (l : Leg) → r ≡ Ok l → leg_in b ≡ Some l
  print_along l e = go o q (sym or ∙ e)
    where
      go : (o : Option Leg) → o ≡ leg_in b → ok_or o NoLeg ≡ Ok l → leg_in b ≡ Some l
      go None q h = absurd (let y : ◌≡◌ {A = ℕ} 0 1 = cc in omega arith)
      go (Some k) q h = cc

-- ---- all commands

module _ (b w : List ℕ) (v : Result Verdict Cause) (c d : Command) (e : c ≡ d) where
  pub settled_decided : Settled v d b → Decided v c b w
  settled_decided h = subst (λ (x : Command). Decided v x b w) (sym e) (h.decided w)

  pub decided_same : Decided v d b w → Decided v c b w
  decided_same h = subst (λ (x : Command). Decided v x b w) (sym e) h

-- ---- what a verdict is answered

pub refuse_answer : (v : Result Verdict Cause) (x : Cause) → v ≡ Err x → Answer.Refused x ≡ answer_of v
refuse_answer v x e = sym (ap answer_of e)

pub show_answer : (v : Result Verdict Cause) (l : Leg) (k : ℕ) → v ≡ Ok (Verdict.Show l k) → Answer.Listed l 0 k ≡ answer_of v
show_answer v l k e = sym (ap answer_of e)

pub follow_answer : (v : Result Verdict Cause) (l : Leg) (j n k : ℕ) → v ≡ Ok (Verdict.Follow l j n k) → Answer.Listed l j k ≡ answer_of v
follow_answer v l j n k e = sym (ap answer_of e)
