-- An accepted change, carried out: the table holds the changed book.
-- Assumes nothing.
use mathlib.Core.Path.{◌≡◌, refl, sym, ap, subst, subst⁻¹, ◌∙◌}
use mathlib.Core.Bool.{true, false}
use Rattle.std.specs.Prelude.{Option, None, Some}
use mathlib.Core.List.{List}
use Prim.Native.Nat.{ℕ, ◌≤◌, ◌<◌}
use native.Mathlib.Omega.{arith}
use lib.ListN.{length}
use borrow.Author.Tests.{ne_eqb}
use Rattle.limits.specs.Limits.{max_sites}
use Rattle.words.specs.Words.{Only}
use Rattle.words.proofs.Frame.{word_low, word_high}
use Rattle.grid.specs.declared.Position.{Position}
use Rattle.grid.specs.declared.Site.{Site}
use Rattle.grid.specs.declared.Leg.{Leg}
use Rattle.grid.specs.Position.{OnGrid, LegOnGrid}
use Rattle.split.specs.SplitOf.{split_of}
use Rattle.split.proofs.Exists.{split_is}
use Rattle.readings.specs.declared.Location.TheVariants.{InSteps}
use Rattle.book.specs.declared.Command.TheVariants.{Add, Remove, Move, Stand, Begin, Corner}
use Rattle.book.specs.declared.Tour.{Tour}
use Rattle.book.specs.Tour.{tour_leg, begun, cornered, goes_on}
use Rattle.book.specs.Book.{with_lines, with_tour, write_line, strike_line, move_line, holds, list_of, change}
use Rattle.book.specs.Proper.{LegOk, LastHeld, TourOk}
use Rattle.book.proofs.Lines.{strike_none, holds_strike, holds_member}
use Rattle.book.proofs.ProperBooks.{proper_numbered}
use Rattle.book.proofs.Lists.{last_held}
use Rattle.table_header.specs.Layout.{layout_start, flag_start, leg_start, length_start, tour_start, corner_start, tour_end}
use Rattle.table_header.specs.Header.{leg_in, length_in, site_number, tour_at, tour_in, ZeroFrom, LegStored, TourStored}
use Rattle.table_sites.specs.Lines.{lines_in, StandsAt, StandsNowhere}
use Rattle.table_standing.specs.Standing.{standing_in, numbers_of}
use Rattle.tree_node.specs.Layout.{tree_start}
use Rattle.table_rules.specs.Table.{book_of, Whole, StandingOk, Sound}
use Rattle.table_rules.specs.Following.{Follows}
use Rattle.table_rules.proofs.Books.{sound_few, sound_proper}
use Rattle.table_rules.proofs.Same.{lines_same, sites_same, leg_same, tour_same, list_same, flag_same, tied_below}
use Rattle.demands.specs.Step.{Holds}
use Rattle.table_patch.specs.Patching.{Patchable}
use Rattle.table_patch.proofs.Patching.{patchable}
use Rattle.table_change.specs.Changes.{Relined}
use Rattle.table_change.proofs.Struck.{strike_written, strike_moved}
use Rattle.table_change.proofs.Indices.{written_at, moved_at}

-- ---- the tour ends, or goes on: the lines, the standing leg and the stored list are as they were

module _ (b b₀ : List ℕ) (o : Option Tour) (w : Whole b) (st : TourStored o b b₀) where
  lines_left : lines_in b₀ ≡ lines_in b
  lines_left = lines_same b b₀ (λ i x h. st.only.low i (omega arith)) (λ i x h. st.only.high i (omega arith)) w.sites.few

  leg_left : leg_in b₀ ≡ leg_in b
  leg_left = leg_same b b₀ (λ i x h. st.only.low i (omega arith))

  list_left : length_in b ≤ max_sites → standing_in b₀ ≡ standing_in b
  list_left few = list_same b b₀ (λ i x h. st.only.low i (omega arith)) (λ i x h. st.only.high i (omega arith)) few

  -- THE TABLE with another tour or none
  toured_whole : TourOk o (lines_in b) → Whole b₀
  unfolding ZeroFrom
  toured_whole fits =
      record {
        len = st.only.len ∙ w.len;
        sites = sites_same b b₀ (λ i x h. st.only.low i (omega arith)) (λ i x h. st.only.high i (omega arith)) w.sites;
        header = record {
          layout = word_low st.only layout_start (omega arith) ∙ w.header.layout;
          leg = flag_same b b₀ flag_start leg_start length_start (λ i x h. st.only.low i (omega arith)) (omega arith) (omega arith) w.header.leg;
          tour = st.layout;
          kept = λ i x h. st.only.high i (omega arith) ∙ w.header.kept i x h;
        };
        tour = rw (st.tour, lines_left) fits;
        tree = tied_below b b₀ (record { len = st.only.len; low = st.only.low; high = λ i h. st.only.high i (omega arith) }) lines_left w.tree;
      }

  toured_book : book_of b₀ ≡ with_tour o (book_of b)
  toured_book = λ i. record { lines = lines_left i; leg = leg_left i; tour = st.tour i }

  -- and sound, if it was
  toured_holds : StandingOk b → TourOk o (lines_in b) → Holds b₀ (with_tour o (book_of b))
  toured_holds s fits =
      record {
        sound = record {
          whole = toured_whole fits;
          standing = record {
            leg = subst LegOk (sym leg_left) s.leg;
            list = list_left (sound_few b (record { whole = w; standing = s })) ∙ s.list ∙ sym (λ i. numbers_of (list_of (leg_left i) (lines_left i)));
          };
        };
        book = toured_book;
      }

-- ---- the tour ends

module _ (b b₀ : List ℕ) (s : Sound b) (st : TourStored None b b₀) where
  pub ended_whole : Whole b₀
  ended_whole = toured_whole b b₀ None s.whole st tt

  pub ended_idle : tour_in b₀ ≡ None
  ended_idle = st.tour

  pub ended_nowhere : (k n : ℕ) → StandsNowhere k n (lines_in b) → StandsNowhere k n (lines_in b₀)
  ended_nowhere k n h = subst⁻¹ (StandsNowhere k n) (lines_left b b₀ None s.whole st) h

  pub ended_at : (k n : ℕ) → StandsAt k n (lines_in b) → StandsAt k n (lines_in b₀)
  ended_at k n h = subst⁻¹ (StandsAt k n) (lines_left b b₀ None s.whole st) h

  pub ended_room : length (lines_in b) < max_sites → length (lines_in b₀) < max_sites
  ended_room h = omega (arith, h, ap length (lines_left b b₀ None s.whole st))

  -- what is relined then is relined
  ended_relined : (f : List Site → List Site) (b₁ : List ℕ) → Relined (f (lines_in b₀)) b₀ b₁ → Relined (f (lines_in b)) b b₁
  ended_relined f b₁ r =
      let e = lines_left b b₀ None s.whole st in
      record {
        whole = r.whole;
        lines = r.lines ∙ ap f e;
        leg = r.leg ∙ leg_left b b₀ None s.whole st;
        tour = r.tour;
        list = λ few. r.list (omega (arith, few, word_low st.only length_start (omega arith))) ∙ list_left b b₀ None s.whole st few;
      }

-- after a line has changed, the list may be patched, and then the table holds the changed book
module _ (b b₁ : List ℕ) (l : List Site) (s : Sound b) (r : Relined l b b₁) where
  relined_patch : (n : ℕ) → strike_line n l ≡ strike_line n (lines_in b) → Patchable n b₁
  relined_patch n e = patchable b b₁ n s r.whole r.leg r.list (ap (strike_line n) r.lines ∙ e)

  relined_book : book_of b₁ ≡ with_lines l (book_of b)
  relined_book = λ i. record { lines = r.lines i; leg = r.leg i; tour = r.tour i }

  pub relined_holds : (b₂ : List ℕ) → Holds b₂ (book_of b₁) → Holds b₂ (with_lines l (book_of b))
  relined_holds b₂ h = subst (Holds b₂) relined_book h

module _ (b b₀ b₁ : List ℕ) (p : Site) (s : Sound b) (st : TourStored None b b₀) (r₀ : Relined (write_line p (lines_in b₀)) b₀ b₁) where
  added : Relined (write_line p (lines_in b)) b b₁
  added = ended_relined b b₀ s st (write_line p) b₁ r₀

  pub add_patch : Patchable p.number b₁
  add_patch = relined_patch b b₁ (write_line p (lines_in b)) s added p.number (strike_written p (lines_in b))

  pub add_stands : (k : ℕ) → StandsNowhere k p.number (lines_in b) → StandsAt k p.number (lines_in b₁)
  add_stands k h = subst (StandsAt k p.number) (sym added.lines) (written_at k p (lines_in b) h)

  -- ADDED
  pub add_done : (b₂ : List ℕ) → Holds b₂ (book_of b₁) → Holds b₂ (change (Add p.number (InSteps p.position)) (book_of b))
  unfolding change
  add_done b₂ h = relined_holds b b₁ (write_line p (lines_in b)) s added b₂ h

module _ (b b₀ b₁ : List ℕ) (n : ℕ) (s : Sound b) (st : TourStored None b b₀) (r₀ : Relined (strike_line n (lines_in b₀)) b₀ b₁) where
  struck : Relined (strike_line n (lines_in b)) b b₁
  struck = ended_relined b b₀ s st (strike_line n) b₁ r₀

  pub remove_patch : Patchable n b₁
  remove_patch = relined_patch b b₁ (strike_line n (lines_in b)) s struck n (strike_none n (strike_line n (lines_in b)) (holds_strike n (lines_in b)))

  pub remove_gone : holds n (lines_in b₁) ≡ false
  remove_gone = ap (holds n) struck.lines ∙ holds_strike n (lines_in b)

  -- REMOVED
  pub remove_done : (b₂ : List ℕ) → Holds b₂ (book_of b₁) → Holds b₂ (change (Remove n) (book_of b))
  unfolding change
  remove_done b₂ h = relined_holds b b₁ (strike_line n (lines_in b)) s struck b₂ h

module _ (b b₀ b₁ : List ℕ) (q : Site) (s : Sound b) (st : TourStored None b b₀) (r₀ : Relined (move_line q.number q.position (lines_in b₀)) b₀ b₁) where
  moved : Relined (move_line q.number q.position (lines_in b)) b b₁
  moved = ended_relined b b₀ s st (move_line q.number q.position) b₁ r₀

  pub move_patch : Patchable q.number b₁
  move_patch = relined_patch b b₁ (move_line q.number q.position (lines_in b)) s moved q.number (strike_moved q.number q.position (lines_in b))

  pub move_stands : (k : ℕ) → StandsAt k q.number (lines_in b) → StandsAt k q.number (lines_in b₁)
  move_stands k h = subst (StandsAt k q.number) (sym moved.lines) (moved_at k q.number q.position (lines_in b) h)

  -- MOVED
  pub move_done : (b₂ : List ℕ) → Holds b₂ (book_of b₁) → Holds b₂ (change (Move q.number (InSteps q.position)) (book_of b))
  unfolding change
  move_done b₂ h = relined_holds b b₁ (move_line q.number q.position (lines_in b)) s moved b₂ h

module _ (b b₁ : List ℕ) (l : Leg) (s : Sound b) (on : LegOnGrid l) (st : LegStored l b b₁) where
  lines_stay : lines_in b₁ ≡ lines_in b
  lines_stay = lines_same b b₁ (λ i x h. st.only.low i h) (λ i x h. st.only.high i (omega arith)) s.whole.sites.few

  tour_stays : tour_in b₁ ≡ tour_in b
  tour_stays = tour_same b b₁ (λ i x h. st.only.high i (omega arith))

  pub stand_whole : Whole b₁
  unfolding ZeroFrom
  stand_whole =
      record {
        len = st.only.len ∙ s.whole.len;
        sites = sites_same b b₁ (λ i x h. st.only.low i h) (λ i x h. st.only.high i (omega arith)) s.whole.sites;
        header = record {
          layout = word_high st.only layout_start (omega arith) ∙ s.whole.header.layout;
          leg = record { flag = omega (arith, st.flag); unset = λ z. absurd (omega (arith, st.flag)) };
          tour = flag_same b b₁ tour_start corner_start tour_end (λ i x h. st.only.high i (omega arith)) (omega arith) (omega arith) s.whole.header.tour;
          kept = λ i x h. st.only.high i (omega arith) ∙ s.whole.header.kept i x h;
        };
        tour = rw (tour_stays, lines_stay) s.whole.tour;
        tree = tied_below b b₁ below lines_stay s.whole.tree;
      }
    where
      below : Only flag_start tree_start b b₁
      below = record { len = st.only.len; low = st.only.low; high = λ i h. st.only.high i (omega arith) }

  pub stand_leg : LegOk (leg_in b₁)
  stand_leg = subst LegOk (sym st.leg) on

  -- SET
  pub stand_done : (b₂ : List ℕ) → Holds b₂ (book_of b₁) → Holds b₂ (change (Stand l) (book_of b))
  unfolding change
  stand_done b₂ h = subst (Holds b₂) (λ i. record { lines = lines_stay i; leg = st.leg i; tour = tour_stays i }) h

-- ---- the tour begins and goes on

-- no byte but those of the tour is written
pub stored_alone : (b b₀ : List ℕ) (o : Option Tour) → TourStored o b b₀ → Only tour_start tour_end b b₀
stored_alone b b₀ o st = st.only

module _ (b b₀ : List ℕ) (s : Sound b) where
  -- BEGUN
  pub begin_done : (p : Position) → OnGrid p → TourStored (Some (begun p)) b b₀ → Holds b₀ (change (Begin p) (book_of b))
  unfolding change
  begin_done p on st = toured_holds b b₀ (Some (begun p)) s.whole st s.standing (record { on_grid = on; held = tt })

  module _ (l : Leg) (n : ℕ) (f : Follows l n b) where
    -- the last site of the leg's list is held
    held_last : holds n (lines_in b) ≡ true
    held_last =
        subst (λ (o : Option ℕ). LastHeld o (lines_in b)) f.last
        (last_held l (lines_in b) None (split_of l (lines_in b)) (split_is l (lines_in b) (proper_numbered (book_of b) (sound_proper b s))).rules tt)

    -- so it has a number
    pub last_numbered : 0 < n
    last_numbered =
        let h = holds_member n (lines_in b) held_last in
        omega (arith, h.named, (s.whole.sites.numbers h.line h.held).least)

    last_number_lem : site_number n ≡ Some n
    last_number_lem = rw (ne_eqb n 0 (λ z. omega (arith, z, last_numbered))) refl

    goes_on_lem : goes_on (tour_in b) l.e (list_of (tour_leg (tour_in b) l.e) (lines_in b)) ≡ Some (tour_at l.e n)
    goes_on_lem =
        ap (λ (o : Option Tour). goes_on o l.e (list_of (tour_leg o l.e) (lines_in b))) f.runs
        ∙ (λ i. Some (cornered l.e (split_of (record { s = f.from i; e = l.e }) (lines_in b))))
        ∙ ap (λ (o : Option ℕ). Some (record { corner = l.e; last = o })) (f.last ∙ sym last_number_lem)

    -- GONE ON
    pub follow_done : TourStored (Some (tour_at l.e n)) b b₀ → Holds b₀ (change (Corner l.e) (book_of b))
    unfolding change
    follow_done st =
        subst⁻¹ (λ (o : Option Tour). Holds b₀ (with_tour o (book_of b))) goes_on_lem
        (toured_holds b b₀ (Some (tour_at l.e n)) s.whole st s.standing
        (record { on_grid = f.on_grid; held = rw last_number_lem held_last }))
