-- The book's answers to 42 and 43, from what the tests find: one law for each return.
-- Assumes nothing.
use mathlib.Core.Path.{◌≡◌, refl, sym, ap, subst, ◌∙◌}
use mathlib.Core.Logic.{◌≢◌}
use mathlib.Core.Bool.{Bool, true, false, cond}
use mathlib.Core.List.{List, [], ◌∷◌, ◌++◌}
use Rattle.std.specs.Prelude.{Option, None, Some, Result, Ok, Err, ok_or}
use Prim.Native.Nat.{ℕ, zero, suc, ◌-◌, ◌≤◌, ◌<◌}
use native.Mathlib.Omega.{arith}
use lib.ListN.{length, drop}
use lib.Dec.{eqb}
use Rattle.grid.specs.declared.Position.{Position}
use Rattle.grid.specs.declared.Site.{Site}
use Rattle.grid.specs.declared.Leg.{Leg}
use Rattle.grid.specs.Position.{OnGrid, LegOnGrid}
use Rattle.grid.specs.Says.{Says}
use Rattle.grid.proofs.Says.{says_yes, says_no}
use Rattle.split.specs.SplitList.{Entry}
use Rattle.split.specs.SplitOf.{split_of}
use Rattle.split.proofs.Exists.{split_is}
use Rattle.split.proofs.Dealing.{no_site_lem}
use Rattle.list_row.specs.Places.{site_at}
use Rattle.list_row.specs.Vertices.{place_at, entries_in}
use Rattle.list_row.specs.Entries.{row_entry, entries_from}
use Rattle.list_row.proofs.Entries.{entries_one, entries_length}
use Rattle.book.specs.declared.Cause.{Cause}
use Rattle.book.specs.declared.Cause.TheVariants.{OffGrid, NoSite, NoTour}
use Rattle.book.specs.declared.Command.TheVariants.{Begin, Corner}
use Rattle.book.specs.declared.Tour.{Tour}
use Rattle.book.specs.Tour.{leg_to, last_number, left_out}
use Rattle.book.specs.Proper.{TourOk}
use Rattle.book.specs.Reply.{listed}
use Rattle.book.proofs.Answers.{answer_begin_off, answer_begin_done, answer_corner_tourless, answer_corner_off, answer_corner_empty, answer_corner_done}
use Rattle.book.proofs.ProperBooks.{proper_numbered}
use Rattle.book.proofs.LegRecords.{opens_some}
use Rattle.table_header.specs.Header.{count_in, tour_in}
use Rattle.table_sites.specs.Lines.{lines_in}
use Rattle.table_sites.proofs.Reading.{lines_length}
use Rattle.table_rules.specs.Table.{book_of, Sound}
use Rattle.table_rules.specs.Listing.{ListsTable}
use Rattle.table_rules.proofs.Books.{sound_proper}
use Rattle.call_judge.specs.declared.Verdict.{Verdict}
use Rattle.call_judge.specs.Verdict.{Decided, Settled, passed_by}
use Rattle.call_judge.proofs.Deciding.{refusal, refused_so_lem}

-- ---- 42

module _ (b : List ℕ) (p : Position) (q : Bool) (s : Says q (OnGrid p)) where
  pub begin_off : q ≡ false → Settled (Err OffGrid) (Begin p) b
  begin_off e = refused_so_lem b (Begin p) OffGrid (answer_begin_off (book_of b) p (says_no q s e))

  pub begin_done : q ≡ true → Settled (Ok (Verdict.Begin p)) (Begin p) b
  begin_done e =
      record {
        decided = λ w. record { judged = record { said = sym (answer_begin_done (book_of b) p (says_yes q s e)); row = tt }; found = says_yes q s e; command = refl };
      }

-- ---- what is left out

-- so the record is what the book leaves
passed_left : (e : Entry) (es : List Entry) (last : Option ℕ) → drop (passed_by e.site.number last) (e ∷ es) ≡ left_out last (e ∷ es)
passed_left e es None = refl
passed_left e es (Some n) = by (eqb e.site.number n)
  where
    by : (c : Bool) → drop (cond c 1 0) (e ∷ es) ≡ cond c es (e ∷ es)
    by true = refl
    by false = refl

passed_few : (first : ℕ) (last : Option ℕ) (k : ℕ) → 0 < k → passed_by first last ≤ k
passed_few first None k h = omega arith
passed_few first (Some n) k h = go (eqb first n)
  where
    go : (c : Bool) → cond c 1 0 ≤ k
    go true = omega arith
    go false = omega arith

-- ---- the first and the last of a row

module _ (l : Leg) (t r : List ℕ) where
  -- the first entry stays the first
  first_in : (k : ℕ) → (es : List Entry) × (entries_in l t r (suc k) ≡ row_entry l t r 0 ∷ es)
  first_in zero = ([], entries_one l t r 0)
  first_in (suc k) =
      let (es, e) = first_in k in
      (es ++ (row_entry l t r (suc k) ∷ []), entries_one l t r (suc k) ∙ ap (λ (x : List Entry). x ++ (row_entry l t r (suc k) ∷ [])) e)

  last_behind : (o : Option ℕ) (es : List Entry) (e : Entry) → last_number o (es ++ (e ∷ [])) ≡ Some e.site.number
  last_behind o [] e = refl
  last_behind o (x ∷ es) e = last_behind (Some x.site.number) es e

  last_in_lem : (k : ℕ) → last_number None (entries_in l t r (suc k)) ≡ Some (site_at t (place_at r k)).number
  last_in_lem k = ap (last_number None) (entries_one l t r k) ∙ last_behind None (entries_in l t r k) (row_entry l t r k)

-- ---- 43: the leg and its list are found

module _ (b w : List ℕ) (tour : Tour) (p : Position) (k : ℕ) (s : Sound b) (runs : tour_in b ≡ Some tour) (on : OnGrid p) (f : ListsTable (leg_to tour p) b w k) where
  abbrev pub l : Leg
  l = leg_to tour p

  -- the tour's corner is on the grid
  from_grid : OnGrid tour.corner
  from_grid = (subst (λ (o : Option Tour). TourOk o (lines_in b)) runs s.whole.tour).on_grid

  -- a list over no site has no entry
  site_held : 0 < k → length (lines_in b) ≢ 0
  site_held h z = omega (arith, h, entries_length l b w k, ap length f.list, none_listed (lines_in b) z)
    where
      none_listed : (ss : List Site) → length ss ≡ 0 → length (split_of l ss) ≡ 0
      none_listed [] e = ap length (no_site_lem l)
      none_listed (x ∷ ss) e = absurd (omega arith)

  module _ (first ending j : ℕ) (hf : first ≡ (site_at b (place_at w 0)).number) (he : ending ≡ (site_at b (place_at w (k - 1))).number) (hj : j ≡ passed_by first tour.last) where
    shown_as : (m : ℕ) → k ≡ suc m → entries_from l b w j k ≡ left_out tour.last (split_of l (lines_in b))
    shown_as m e =
        let (es, q) = first_in l b w m in
        let all : entries_in l b w k ≡ row_entry l b w 0 ∷ es = ap (entries_in l b w) e ∙ q in
        let whole : split_of l (lines_in b) ≡ row_entry l b w 0 ∷ es = sym f.list ∙ all in
        (λ i. drop ((hj ∙ ap (λ (x : ℕ). passed_by x tour.last) hf) i) (all i))
        ∙ passed_left (row_entry l b w 0) es tour.last
        ∙ ap (left_out tour.last) (sym whole)

    last_as : (m : ℕ) → k ≡ suc m → last_number None (split_of l (lines_in b)) ≡ Some ending
    last_as m e =
        let c : m ≡ k - 1 = omega arith in
        ap (last_number None) (sym f.list ∙ ap (entries_in l b w) e) ∙ last_in_lem l b w m
        ∙ ap (λ (x : ℕ). Some (site_at b (place_at w x)).number) c ∙ ap Some (sym he)

    pub shown_done : 0 < k → Decided (Ok (Verdict.Follow l j ending k)) (Corner p) b w
    shown_done h = by k refl
      where
        by : (n : ℕ) → k ≡ n → Decided (Ok (Verdict.Follow l j ending k)) (Corner p) b w
        by zero e = absurd (omega arith)
        by (suc m) e =
            record {
              judged = record {
                said = ap listed (shown_as m e) ∙ sym (answer_corner_done (book_of b) p tour runs on (site_held h));
                row = (record { s = from_grid; e = on }, f.held, omega (arith, hj, passed_few first tour.last k h));
              };
              found = record { tour = tour; runs = runs; from = refl; on_grid = on; last = last_as m e };
              command = refl;
            }

-- ---- 43: position, site

module _ (b : List ℕ) (tour : Tour) (p : Position) (s : Sound b) (runs : tour_in b ≡ Some tour) (q : Bool) (g : Says q (OnGrid p)) where
  pub onward_off : (w : List ℕ) → q ≡ false → Decided (Err OffGrid) (Corner p) b w
  onward_off w e = refusal b (Corner p) OffGrid (answer_corner_off (book_of b) p tour runs (says_no q g e)) w

  pub onward_none : (w : List ℕ) (m : ℕ) → q ≡ true → m ≡ count_in b → m ≡ 0 → Decided (Err NoSite) (Corner p) b w
  onward_none w m y c z =
      refusal b (Corner p) NoSite (answer_corner_empty (book_of b) p tour runs (says_yes q g y) (lines_length b ∙ sym c ∙ z)) w

  pub onward_leg : q ≡ true → LegOnGrid (leg_to tour p)
  onward_leg y =
      record { s = (subst (λ (o : Option Tour). TourOk o (lines_in b)) runs s.whole.tour).on_grid; e = says_yes q g y }

  pub onward_grid : q ≡ true → OnGrid p
  onward_grid y = says_yes q g y

-- where a site is held the list has an entry
pub onward_some : (b w : List ℕ) (l : Leg) (m k : ℕ) → ListsTable l b w k → Sound b → m ≡ count_in b → m ≢ 0 → 0 < k
onward_some b w l m k f s c z = by k refl
  where
    by : (n : ℕ) → k ≡ n → 0 < k
    by zero e =
        absurd
        (opens_some l (lines_in b) (split_of l (lines_in b)) (split_is l (lines_in b) (proper_numbered (book_of b) (sound_proper b s)))
        (λ x. z (c ∙ sym (lines_length b) ∙ x)) (sym f.list ∙ ap (entries_in l b w) e))
    by (suc n) e = omega arith

-- ---- 43: tour

module _ (b : List ℕ) (p : Position) (o : Option Tour) (q : o ≡ tour_in b) (r : Result Tour Cause) (or : r ≡ ok_or o NoTour) where
  pub corner_idle : (w : List ℕ) (x : Cause) → r ≡ Err x → Decided (Err x) (Corner p) b w
  corner_idle w x e = go o q (sym or ∙ e)
    where
      go : (o : Option Tour) → o ≡ tour_in b → ok_or o NoTour ≡ Err x → Decided (Err x) (Corner p) b w
      go None q h = let y : NoTour ≡ x = cc in subst (λ (c : Cause). Decided (Err c) (Corner p) b w) y (refusal b (Corner p) NoTour (answer_corner_tourless (book_of b) p (sym q)) w)
      go (Some k) q h = absurd (let y : ◌≡◌ {A = ℕ} 0 1 = cc in omega arith)

  pub corner_runs : (tour : Tour) → r ≡ Ok tour → tour_in b ≡ Some tour
  corner_runs tour e = go o q (sym or ∙ e)
    where
      go : (o : Option Tour) → o ≡ tour_in b → ok_or o NoTour ≡ Ok tour → tour_in b ≡ Some tour
      go None q h = absurd (let y : ◌≡◌ {A = ℕ} 0 1 = cc in omega arith)
      go (Some k) q h = cc
