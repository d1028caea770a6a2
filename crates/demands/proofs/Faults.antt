-- What is broken in a table: each way to break a rule gets its number, and where that is 69 the sites can be read.
-- Assumes nothing.
use mathlib.Core.Path.{◌≡◌, refl, sym, ap, subst, ◌∙◌}
use mathlib.Core.Logic.{◌≢◌}
use mathlib.Core.Bool.{Bool, true, false, cond, true≢false}
use Rattle.std.specs.Prelude.{Option, None, Some}
use mathlib.Core.List.{List, [], ◌∷◌, Memᴰ}
use Prim.Native.Nat.{ℕ, zero, suc, ◌+◌, ◌*◌, ◌≤◌, ◌<◌}
use native.Mathlib.Omega.{arith}
use lib.ListN.{length, get_or}
use lib.Dec.{eqb}
use borrow.Author.Tests.{eqb-true, eq-eqb, ne_eqb}
use Rattle.limits.specs.Limits.{grid_width, table_bytes, work_bytes}
use Rattle.words.specs.Words.{word_at, put_word, Only}
use Rattle.words.proofs.Frame.{only_put_word, word_put_word, word_low}
use Rattle.grid.specs.declared.Leg.{Leg}
use Rattle.grid.specs.declared.Site.{Site}
use Rattle.grid.specs.Position.{LegOnGrid}
use Rattle.split.specs.SplitList.{Entry, Numbered}
use Rattle.split.specs.SplitOf.{split_of}
use Rattle.split.proofs.Exists.{split_is}
use Rattle.records.specs.ListRecord.{record_bytes}
use Rattle.book.specs.Book.{Book, sites_of, holds, list_of, standing_list}
use Rattle.book.specs.Proper.{LegOk}
use Rattle.book.proofs.Lines.{member_holds}
use Rattle.book.proofs.Lists.{listed_held}
use Rattle.table_header.specs.Layout.{flag_start, leg_start, length_start}
use Rattle.table_header.specs.Header.{position_words, leg_words, leg_in, length_in, tour_in, ZeroFrom}
use Rattle.table_header.proofs.Legs.{unset_is}
use Rattle.table_sites.specs.Lines.{lines_in}
use Rattle.table_standing.specs.Layout.{list_start}
use Rattle.table_standing.specs.Standing.{standing_in, stored_number, numbers_of}
use Rattle.table_standing.proofs.Numbers.{numbers_length, standing_length, standing_number}
use Rattle.table_empty.specs.EmptyTable.{zeros, empty_table}
use Rattle.table_rules.specs.Table.{book_of, Whole, StandingOk, Sound}
use Rattle.table_rules.specs.Fault.{StandingFault}
use Rattle.table_rules.proofs.Same.{leg_same}
use Rattle.table_rules.proofs.Books.{whole_numbered, standing_few, sound_few, lines_alone, whole_proper}
use Rattle.table_rules.proofs.Fault.{fault_lines, fault_tour, fault_whole}
use Rattle.table_rules.proofs.Laid.{laid_sound, laid_book}
use Rattle.demands.specs.Step.{Holds}
use Rattle.demands.specs.Batch.{returns, lengths_ok}
use Rattle.demands.specs.Whole.{Call, MadeOn, Ran, said, book_of_run, Asks, HasRoom, WroteReport}
use Rattle.demands.specs.Demands.{RefusedWith, FreshOf, list4_c}
use Rattle.demands.specs.Faults.{BreaksWhole, BreaksStanding, AllRefused, OneWord, SitesRead, FaultTold}
use Rattle.demands.specs.Faults.BreaksWhole.{sites, other_layout, other_flag, not_zero, tour, tree}
use Rattle.demands.specs.Faults.BreaksStanding.{off_grid, legless, siteless, too_long, not_held, other_list}
use Rattle.demands.proofs.Demand1.{demand1}
use Rattle.demands.proofs.Demand3.{filled_is, demand3}
use Rattle.demands.proofs.WholeRun.{ran_holds}
use Rattle.demands.proofs.TourRules.{tour_unbroken}

-- the flag is 0 where there is no standing leg
no_flag : (t : List ℕ) → leg_in t ≡ None → word_at t flag_start ≡ 0
unfolding leg_in
no_flag t e = go (eqb (word_at t flag_start) 0) refl e
  where
    go : (c : Bool) → eqb (word_at t flag_start) 0 ≡ c → cond c None (Some (leg_words t)) ≡ None → word_at t flag_start ≡ 0
    go true f g = eqb-true (word_at t flag_start) 0 f
    go false f g = absurd (let x : ◌≡◌ {A = ℕ} 0 1 = cc in omega arith)

-- ---- 65

-- WHERE THE FIRST HALF IS KEPT none of these is so
unbroken : (t : List ℕ) → BreaksWhole t → ¬ Whole t
unfolding ZeroFrom
unbroken t (sites n) w = n w.sites
unbroken t (other_layout n) w = n w.header.layout
unbroken t (other_flag l) w = omega (arith, l, w.header.leg.flag)
unbroken t (not_zero e i l u n) w = n (w.header.leg.unset (no_flag t e) i l u)
unbroken t (tour b) w = tour_unbroken t b w
unbroken t (tree n) w = n w.tree

-- 65, whatever the standing leg and list are
pub whole_65 : (t : List ℕ) (c : Call) (t' : List ℕ) → MadeOn t c t' → lengths_ok t c.work ≡ true → BreaksWhole t → RefusedWith 65 t c t'
whole_65 t c t' made ok b = (demand1 t c t' made).broken ok (unbroken t b)

-- ---- 69

-- the numbers of a list are those of sites that are held
numbers_held : (s : List Site) (es : List Entry) → ((e : Entry) → Memᴰ e es → Memᴰ e.site s)
    → (i : ℕ) → i < length (numbers_of es) → holds (get_or (numbers_of es) i 0) s ≡ true
unfolding numbers_of
numbers_held s [] m i h = absurd (omega arith)
numbers_held s (e ∷ es) m zero h = member_holds e.site.number s e.site (m e (Memᴰ.head refl)) refl
numbers_held s (e ∷ es) m (suc i) h = numbers_held s es (λ f k. m f (Memᴰ.tail k)) i (omega arith)

-- of the list of a leg or none
named_held : (o : Option Leg) (s : List Site) → Numbered s → (i : ℕ) → i < length (numbers_of (list_of o s)) → holds (get_or (numbers_of (list_of o s)) i 0) s ≡ true
unfolding numbers_of
named_held None s n i h = absurd (omega arith)
named_held (Some l) s n i h = numbers_held s (split_of l s) (listed_held l s (split_of l s) (split_is l s n).rules) i h

-- WHERE THE SECOND HALF IS KEPT, too, none of these is so
unbroken_standing : (t : List ℕ) → Whole t → BreaksStanding t → ¬ StandingOk t
unfolding numbers_of
unbroken_standing t w (off_grid l e n) s = n (subst LegOk e s.leg)
unbroken_standing t w (legless e n) s =
    n (omega (arith, standing_length t, ap length (s.list ∙ ap (λ (o : Option Leg). numbers_of (list_of o (sites_of (book_of t)))) e)))
unbroken_standing t w (siteless e n) s = n (omega (arith, standing_few t w s, ap length e))
unbroken_standing t w (too_long h) s = omega (arith, h, standing_few t w s)
unbroken_standing t w (not_held i h e) s =
    let x : get_or (numbers_of (standing_list (book_of t))) i 0 ≡ stored_number t i = sym (ap (λ (y : List ℕ). get_or y i 0) s.list) ∙ standing_number t i h in
    true≢false
    (sym (subst (λ (y : ℕ). holds y (sites_of (book_of t)) ≡ true) x
    (named_held (leg_in t) (lines_in t) (whole_numbered t w) i (omega (arith, h, standing_length t, ap length s.list))))
    ∙ e)
unbroken_standing t w (other_list n) s = n s.list

-- 69, in a table that keeps the first half
pub standing_69 : (t : List ℕ) (c : Call) (t' : List ℕ) → MadeOn t c t' → lengths_ok t c.work ≡ true → Whole t → BreaksStanding t → RefusedWith 69 t c t'
standing_69 t c t' made ok w b = (demand1 t c t' made).broken_standing ok w (unbroken_standing t w b)

-- ---- one word

all_65 : (t : List ℕ) → ¬ Whole t → AllRefused 65 t
all_65 t n c t' made ok = (demand1 t c t' made).broken ok n

all_69 : (t : List ℕ) → Whole t → ¬ StandingOk t → AllRefused 69 t
all_69 t w n c t' made ok = (demand1 t c t' made).broken_standing ok w n

-- a flag that is neither 0 nor 1
other_flag_broken : (t : List ℕ) (n : ℕ) → length t ≡ table_bytes → 1 < n → ¬ Whole (put_word t flag_start n)
other_flag_broken t n len h w = omega (arith, h, word_put_word t flag_start n (omega (arith, len)), w.header.leg.flag)

-- the coordinates of a leg on the grid
coordinate_most : (u : List ℕ) → LegOnGrid (leg_words u) → (k : ℕ) → k < 4 → word_at u (leg_start + 2 * k) ≤ grid_width
unfolding position_words
coordinate_most u g zero h = g.s.east
coordinate_most u g (suc zero) h = g.s.north
coordinate_most u g (suc (suc zero)) h = g.e.east
coordinate_most u g (suc (suc (suc zero))) h = g.e.north
coordinate_most u g (suc (suc (suc (suc k)))) h = absurd (omega arith)

-- a coordinate of the leg, where there is one
leg_fault : (t : List ℕ) (k n : ℕ) → k < 4 → leg_in t ≢ None → StandingFault t (put_word t (leg_start + 2 * k) n)
leg_fault t k n h some-leg =
    let o = only_put_word t (leg_start + 2 * k) n in
    record {
      len = o.len;
      low = λ i l. o.low i (omega arith);
      unset = λ e. absurd (some-leg e);
      between = λ i l u. o.high i (omega arith);
      high = λ i l. o.high i (omega arith);
    }

module _ (t : List ℕ) (s : Sound t) where
  len : length t ≡ table_bytes
  len = s.whole.len

  -- the same leg and sites have the same list
  same_standing : (u : List ℕ) → StandingFault t u → leg_in u ≡ leg_in t → StandingOk u → standing_in u ≡ standing_in t
  same_standing u f e x = x.list ∙ (λ i. numbers_of (list_of (e i) (fault_lines t u s.whole f i))) ∙ sym s.standing.list

  length_word_is : (n : ℕ) → n ≢ length_in t → AllRefused 69 (put_word t length_start n)
  length_word_is n d = all_69 u (fault_whole t u s.whole f) wrong
    where
      u : List ℕ
      u = put_word t length_start n

      o : Only length_start (length_start + 2) t u
      o = only_put_word t length_start n

      f : StandingFault t u
      f =
          record {
            len = o.len;
            low = λ i h. o.low i (omega arith);
            unset = λ e i l h. o.low i h;
            between = λ i l h. o.high i (omega arith);
            high = λ i h. o.high i (omega arith);
          }

      wrong : ¬ StandingOk u
      wrong x =
          d
          (sym (word_put_word t length_start n (omega (arith, len)))
          ∙ sym (standing_length u)
          ∙ ap length (same_standing u f (leg_same t u (λ i l h. o.low i h)) x)
          ∙ standing_length t)

  list_word_is : (i n : ℕ) → i < length_in t → n ≢ stored_number t i → AllRefused 69 (put_word t (list_start + 2 * i) n)
  list_word_is i n within d = all_69 u (fault_whole t u s.whole f) wrong
    where
      u : List ℕ
      u = put_word t (list_start + 2 * i) n

      o : Only (list_start + 2 * i) (list_start + 2 * i + 2) t u
      o = only_put_word t (list_start + 2 * i) n

      f : StandingFault t u
      f =
          record {
            len = o.len;
            low = λ j h. o.low j (omega arith);
            unset = λ e j l h. o.low j (omega arith);
            between = λ j l h. o.low j (omega arith);
            high = λ j h. o.high j (omega (arith, within, sound_few t s));
          }

      wrong : ¬ StandingOk u
      wrong x =
          d
          (sym (word_put_word t (list_start + 2 * i) n (omega (arith, len, within, sound_few t s)))
          ∙ sym (standing_number u i (omega (arith, within, word_low o length_start (omega arith))))
          ∙ ap (λ (y : List ℕ). get_or y i 0) (same_standing u f (leg_same t u (λ j l h. o.low j (omega arith))) x)
          ∙ standing_number t i within)

  module _ (k n : ℕ) (h : k < 4) where
    moved : List ℕ
    moved = put_word t (leg_start + 2 * k) n

    o : Only (leg_start + 2 * k) (leg_start + 2 * k + 2) t moved
    unfolding moved
    o = only_put_word t (leg_start + 2 * k) n

    word : word_at moved (leg_start + 2 * k) ≡ n
    unfolding moved
    word = word_put_word t (leg_start + 2 * k) n (omega (arith, len))

    leg_word_is : leg_in t ≢ None → grid_width < n → AllRefused 69 (put_word t (leg_start + 2 * k) n)
    unfolding moved leg_in
    leg_word_is some-leg off = all_69 moved (fault_whole t moved s.whole f) wrong
      where
        f : StandingFault t moved
        f = leg_fault t k n h some-leg

        flag : word_at moved flag_start ≢ 0
        flag z = some-leg (sym (unset_is t (word_at t flag_start) refl (sym (word_low o flag_start (omega arith)) ∙ z)))

        leg : leg_in moved ≡ Some (leg_words moved)
        leg = rw (ne_eqb (word_at moved flag_start) 0 flag) refl

        wrong : ¬ StandingOk moved
        wrong x = omega (arith, off, word, coordinate_most moved (subst LegOk leg x.leg) k h)

    zero_word_is : leg_in t ≡ None → n ≢ 0 → AllRefused 65 (put_word t (leg_start + 2 * k) n)
    unfolding moved ZeroFrom word_at
    zero_word_is e d = all_65 moved broken
      where
        broken : ¬ Whole moved
        broken w =
            let z = w.header.leg.unset (word_low o flag_start (omega arith) ∙ no_flag t e) in
            d
            (omega (
              arith,
              word,
              z (leg_start + 2 * k) (omega arith) (omega arith),
              z (leg_start + 2 * k + 1) (omega arith) (omega arith),
            ))

  -- ONE WORD WRITTEN OVER
  pub one_word : OneWord t
  one_word =
      record {
        length_word = length_word_is;
        list_word = list_word_is;
        leg_word = λ e k n h. leg_word_is k n h e;
        zero_word = λ e k n h. zero_word_is k n h e;
        flag_word = λ n h. all_65 (put_word t flag_start n) (other_flag_broken t n len h);
        both_words = λ n k d h.
            all_65 (put_word (put_word t length_start n) flag_start k)
            (other_flag_broken (put_word t length_start n) k ((only_put_word t length_start n).len ∙ len) h);
      }

-- ---- the sites can still be read

module _ (t : List ℕ) (w : Whole t) where
  mended_is : (fs : List Call) (v : List ℕ) → Ran fs v → FreshOf (book_of t) fs → (book_of_run fs).lines ≡ sites_of (book_of t)
  mended_is fs v r f = filled_is (lines_alone t) (whole_proper t w) fs (record { order = f.order; filled = f.filled; perm = f.perm })

  lists_is : (fs : List Call) (v : List ℕ) → Ran fs v → FreshOf (book_of t) fs
      → (l : Leg) → LegOnGrid l → sites_of (book_of t) ≢ []
      → (c : Call) (v' : List ℕ) → Asks v (list4_c l) c v' → HasRoom c (record_bytes (split_of l (sites_of (book_of t))))
      → WroteReport c (record_bytes (split_of l (sites_of (book_of t)))) × (v' ≡ v)
  lists_is fs v r f l on held c v' a room =
      subst (λ (s : List Site). s ≢ [] → HasRoom c (record_bytes (split_of l s)) → WroteReport c (record_bytes (split_of l s)) × (v' ≡ v))
      (mended_is fs v r f) (λ h m. (demand3 fs v r).lists l on h c v' a m) held room

  sites_read : SitesRead t
  sites_read = record { mended = mended_is; lists = lists_is }

empty_length_word : length_in empty_table ≡ 0
unfolding numbers_of
empty_length_word = sym (standing_length empty_table) ∙ ap length (laid_sound.standing.list ∙ (λ i. numbers_of (standing_list (laid_book i))))

-- A TABLE THAT CAME FROM LAYING OUT AND BATCHES is refused with neither
pub ran_neither : (cs : List Call) (t' : List ℕ) → Ran cs t' → (c : Call) → Memᴰ c cs → (c.result.reason ≢ 65) × (c.result.reason ≢ 69)
ran_neither cs t' r c m = ((demand3 cs t' r).never65 c m, (demand3 cs t' r).never69 c m)

-- AFTER 69 the sites can be read
pub read_69 : (t : List ℕ) (c : Call) (t' : List ℕ) → MadeOn t c t' → c.result.reason ≡ 69 → SitesRead t
read_69 t c t' made e = sites_read t ((demand1 t c t' made).only69 e).1

-- AFTER A FAULT in the standing leg and list
pub fault_told : (cs : List Call) (t u : List ℕ) → Ran cs t → StandingFault t u → FaultTold cs u
fault_told cs t u r f =
    let h = ran_holds cs t r in
    let w = fault_whole t u h.sound.whole f in
    record {
      sites = fault_lines t u h.sound.whole f ∙ ap (λ (b : Book). sites_of b) h.book;
      tour = fault_tour t u h.sound.whole f ∙ ap (λ (b : Book). b.tour) h.book;
      read = sites_read u w;
      not65 = λ c u' m e. ((demand1 u c u' m).only65 e).1 w;
      refused = λ c u' m ok n. (demand1 u c u' m).broken_standing ok w n;
    }

-- both lengths are right
lengths : (t w : List ℕ) → length t ≡ table_bytes → length w ≡ work_bytes → lengths_ok t w ≡ true
lengths t w e f = rw (eq-eqb (length t) table_bytes e, eq-eqb (length w) work_bytes f) refl

-- A FAULT, AND THE TABLE LAID OUT ANEW: it answers a 4C as the table did before the fault
pub fault_mended : (cs : List Call) (t u : List ℕ) → Ran cs t → StandingFault t u → (fs : List Call) (v : List ℕ) → Ran fs v → FreshOf (book_of u) fs
    → (l : Leg) → LegOnGrid l → sites_of (book_of_run cs) ≢ []
    → (c d : Call) (t' v' : List ℕ) → Asks t (list4_c l) c t' → Asks v (list4_c l) d v'
    → HasRoom c (record_bytes (split_of l (sites_of (book_of_run cs)))) → HasRoom d (record_bytes (split_of l (sites_of (book_of_run cs))))
    → said c ≡ said d
fault_mended cs t u r f fs v q fresh l on held c d t' v' ac ad rc rd =
    before
    ∙ (λ i. record { reason = 0; used = length ((ac.commands ∙ sym ad.commands) i); written = length bytes; bytes = bytes })
    ∙ sym behind
  where
    bytes : List ℕ
    bytes = record_bytes (split_of l (sites_of (book_of_run cs)))

    before : WroteReport c bytes
    before = ((demand3 cs t r).lists l on held c t' ac rc).0

    told : FaultTold cs u
    told = fault_told cs t u r f

    behind : WroteReport d bytes
    behind =
        subst (λ (s : List Site). s ≢ [] → HasRoom d (record_bytes (split_of l s)) → WroteReport d (record_bytes (split_of l s)))
        told.sites (λ h m. (told.read.lists fs v q fresh l on h d v' ad m).0) held rd

-- AND THE CALLS BEFORE IT IS LAID OUT ANEW: each says 69 or is taken, and the tour is what it was
pub fault_says : (cs : List Call) (t u : List ℕ) → Ran cs t → StandingFault t u → (c : Call) (u' : List ℕ) → MadeOn u c u' → length c.work ≡ work_bytes
    → (c.result.reason ≢ 65) × (¬ StandingOk u → (c.result ≡ returns 69 0 0) × (u' ≡ u)) × (tour_in u ≡ (book_of_run cs).tour)
fault_says cs t u r f c u' m e =
    let told = fault_told cs t u r f in
    let len : length u ≡ table_bytes = f.len ∙ (ran_holds cs t r).sound.whole.len in
    (told.not65 c u' m, λ n. let x = told.refused c u' m (lengths u c.work len e) n in (x.0, x.1), told.tour)

-- ---- written out, by bytes

-- what a call on the bytes u said and left
abbrev Left : ℕ → List ℕ → Call → List ℕ → Type 0
Left n u c u' = (c.result ≡ returns n 0 0) × (u' ≡ u) × (c.work_after ≡ zeros work_bytes) × (c.report_after ≡ c.report)

-- a word written over leaves the length
put_length : (t : List ℕ) (i n : ℕ) → length t ≡ table_bytes → length (put_word t i n) ≡ table_bytes
put_length t i n e = (only_put_word t i n).len ∙ e

module _ (c : Call) (u' : List ℕ) (e : length c.work ≡ work_bytes) where
  -- A TABLE JUST LAID OUT: the greatest length of a list
  pub laid_length : MadeOn (put_word empty_table 12 65535) c u' → Left 69 (put_word empty_table 12 65535) c u'
  laid_length m =
      (one_word empty_table laid_sound).length_word 65535 (λ z. omega (arith, z, empty_length_word)) c u' m
      (lengths (put_word empty_table 12 65535) c.work (put_length empty_table 12 65535 laid_sound.whole.len) e)

  -- and a flag that is neither 0 nor 1
  pub laid_both : MadeOn (put_word (put_word empty_table 12 65535) 2 2) c u' → Left 65 (put_word (put_word empty_table 12 65535) 2 2) c u'
  laid_both m =
      (one_word empty_table laid_sound).both_words 65535 2 (λ z. omega (arith, z, empty_length_word)) (omega arith) c u' m
      (lengths (put_word (put_word empty_table 12 65535) 2 2) c.work (put_length (put_word empty_table 12 65535) 2 2 (put_length empty_table 12 65535 laid_sound.whole.len)) e)

  -- a coordinate without a leg
  pub laid_zero : MadeOn (put_word empty_table 4 1) c u' → Left 65 (put_word empty_table 4 1) c u'
  laid_zero m =
      (one_word empty_table laid_sound).zero_word (ap (λ (b : Book). b.leg) laid_book) 0 1 (omega arith) (λ z. omega arith) c u' m
      (lengths (put_word empty_table 4 1) c.work (put_length empty_table 4 1 laid_sound.whole.len) e)

  -- A TABLE THAT CALLS LEFT
  module _ (cs : List Call) (t : List ℕ) (r : Ran cs t) where
    hold : Holds t (book_of_run cs)
    hold = ran_holds cs t r

    stored : standing_in t ≡ numbers_of (standing_list (book_of_run cs))
    stored = hold.sound.standing.list ∙ ap (λ (b : Book). numbers_of (standing_list b)) hold.book

    stored_length : length_in t ≡ length (standing_list (book_of_run cs))
    stored_length = sym (standing_length t) ∙ ap length stored ∙ numbers_length (standing_list (book_of_run cs))

    right : (i n : ℕ) → lengths_ok (put_word t i n) c.work ≡ true
    right i n = lengths (put_word t i n) c.work (put_length t i n hold.sound.whole.len) e

    -- any other length of the list
    pub ran_length : (n : ℕ) → n ≢ length (standing_list (book_of_run cs)) → MadeOn (put_word t 12 n) c u' → Left 69 (put_word t 12 n) c u'
    ran_length n d m = (one_word t hold.sound).length_word n (λ z. d (z ∙ stored_length)) c u' m (right 12 n)

    -- any other number
    pub ran_number : (i n : ℕ) → i < length (standing_list (book_of_run cs)) → n ≢ get_or (numbers_of (standing_list (book_of_run cs))) i 0
        → MadeOn (put_word t (4160 + 2 * i) n) c u' → Left 69 (put_word t (4160 + 2 * i) n) c u'
    ran_number i n h d m =
        let within : i < length_in t = omega (arith, h, stored_length) in
        (one_word t hold.sound).list_word i n within
        (λ z. d (z ∙ sym (standing_number t i within) ∙ ap (λ (y : List ℕ). get_or y i 0) stored))
        c u' m (right (4160 + 2 * i) n)

    -- a coordinate of the standing leg off the grid: the sites are those of the calls still
    pub ran_leg : (l : Leg) → (book_of_run cs).leg ≡ Some l → (k : ℕ) → k < 4 → MadeOn (put_word t (4 + 2 * k) 24001) c u'
        → Left 69 (put_word t (4 + 2 * k) 24001) c u' × (lines_in u' ≡ (book_of_run cs).lines)
    ran_leg l leg k h m = (a, ap lines_in a.1 ∙ (fault_told cs t (put_word t (4 + 2 * k) 24001) r (leg_fault t k 24001 h set)).sites)
      where
        some_none : (y : Leg) → Some y ≡ None → ◌≡◌ {A = ℕ} 0 1
        some_none y q = cc

        set : leg_in t ≢ None
        set z = absurd (let x = some_none l (sym leg ∙ sym (ap (λ (b : Book). b.leg) hold.book) ∙ z) in omega (arith, x))

        a : Left 69 (put_word t (4 + 2 * k) 24001) c u'
        a = (one_word t hold.sound).leg_word set k 24001 h (omega arith) c u' m (right (4 + 2 * k) 24001)
