-- The lists that a book answers: document 01's split lists, short enough for any report record, and nothing of them is cut off.
-- Assumes nothing.
use mathlib.Core.Path.{◌≡◌, refl, sym, ap, ◌∙◌, subst, subst⁻¹}
use Rattle.std.specs.Prelude.{Option, None, Some}
use mathlib.Core.List.{List, [], ◌∷◌, ◌++◌, map, Memᴰ}
use Prim.Native.Nat.{ℕ, ◌≤◌, ◌<◌}
use native.Mathlib.Omega.{arith}
use lib.ListN.{length}
use Rattle.limits.specs.Limits.{max_sites, max_denominator}
use Rattle.grid.specs.declared.Leg.{Leg}
use Rattle.grid.specs.declared.Site.{Site}
use Rattle.grid.specs.Fraction.{IsFraction, Below}
use Rattle.grid.specs.Position.{LegOnGrid}
use Rattle.grid.proofs.Order.{mid, mid_fraction}
use Rattle.split.specs.SplitList.{Entry, end_of, Stretches, IsSplitList}
use Rattle.split.specs.SplitOf.{split_of}
use Rattle.split.proofs.Unique.{end_fraction}
use Rattle.split.proofs.Once.{few}
use Rattle.split.proofs.Denominators.{start_below, bounded}
use Rattle.split.proofs.Exists.{split_is}
use Rattle.records.specs.Decode.{listed_of, read_record}
use Rattle.records.specs.ListRecord.{list_size, record_bytes}
use Rattle.records.proofs.Length.{record_length}
use Rattle.records.proofs.ReadBack.{EntrySmall, read_front, read_record_lem}
use Rattle.book.specs.declared.Command.{Command}
use Rattle.book.specs.declared.Command.TheVariants.{Add, Remove, Move, List as ListOf, Stand, Print, Begin, Corner}
use Rattle.book.specs.declared.Tour.{Tour}
use Rattle.book.specs.Tour.{leg_to, tour_leg, remembered, left_out, last_number}
use Rattle.book.specs.Book.{Book, sites_of}
use Rattle.book.specs.Proper.{LegOk, LastHeld, TourOk, Proper}
use Rattle.book.specs.Reply.{Reply, done, refused, listed, record_of, record_size}
use Rattle.book.specs.Answer.{answer, leg_asked, shown_by}
use Rattle.book.proofs.Lines.{member_holds}
use Rattle.book.proofs.Answers.{done_not_listed, accepted_listed, ListFits, list_accepted, PrintFits, print_accepted, CornerFits, corner_accepted}
use Rattle.book.proofs.LegRecords.{EndOf, left_ends, end_member, end_length}
use Rattle.book.proofs.ProperBooks.{proper_numbered}

-- a listed site is held
held_of : (l : Leg) (s : List Site) (f : Entry) (es : List Entry) → Stretches l s es → Memᴰ f es → Memᴰ f.site s
held_of l s f es h (Memᴰ.head {x = e} {xs = rest} q) =
    let r : Below e.start (end_of rest) = h.0.rises in
    let t : IsFraction (mid e.start (end_of rest)) = mid_fraction e.start (end_of rest) (end_fraction l s (e ∷ rest) h) (end_fraction l s rest h.1) in
    subst (λ (g : Entry). Memᴰ g.site s) (sym q) (h.0.leads (mid e.start (end_of rest)) t (omega arith) (omega arith)).held
held_of l s f es h (Memᴰ.tail {x = e} {xs = rest} m) = held_of l s f rest h.1 m

pub listed_held : (l : Leg) (s : List Site) (es : List Entry) → Stretches l s es → (f : Entry) → Memᴰ f es → Memᴰ f.site s
listed_held l s es h f m = held_of l s f es h m

-- THE LAST SITE OF A LIST is held
pub last_held : (l : Leg) (s : List Site) (o : Option ℕ) (es : List Entry) → Stretches l s es → LastHeld o s → LastHeld (last_number o es) s
last_held l s o [] h k = k
last_held l s o (e ∷ es) h k =
    last_held l s (Some e.site.number) es h.1
    (member_holds e.site.number s e.site (listed_held l s (e ∷ es) h e (Memᴰ.head refl)) refl)

-- THE SIZE OF A RECORD is the number of its bytes
pub record_size_lem : (y : Reply) → length (record_of y) ≡ record_size y
record_size_lem done = refl
record_size_lem (refused x) = refl
record_size_lem (listed es) = record_length es

-- the leg that a command asks for is on the grid, and this is what it shows of the split list of it over the book's
-- sites
pub record BookList (b : Book) (c : Command) (es : List Entry) : Type 0 where
  pub leg : Leg
  pub asked : leg_asked b c ≡ Some leg
  pub is : es ≡ shown_by b c (split_of leg (sites_of b))
  pub on_grid : LegOnGrid leg

-- what a command shows is the end of the list
pub shown_ends : (b : Book) (c : Command) (es : List Entry) → EndOf (shown_by b c es) es
shown_ends b (Add n l) es = left_ends None es
shown_ends b (Remove n) es = left_ends None es
shown_ends b (Move n l) es = left_ends None es
shown_ends b (ListOf l) es = left_ends None es
shown_ends b (Stand l) es = left_ends None es
shown_ends b Print es = left_ends None es
shown_ends b (Begin p) es = left_ends None es
shown_ends b (Corner p) es = left_ends (remembered b.tour) es

module _ (b : Book) (ok : Proper b) where
  leg_ok_lem : (l : Leg) → b.leg ≡ Some l → LegOnGrid l
  leg_ok_lem l e = subst (λ (o : Option Leg). LegOk o) e ok.leg_ok

  split_list : (l : Leg) → IsSplitList l (sites_of b) (split_of l (sites_of b))
  split_list l = split_is l (sites_of b) (proper_numbered b ok)

  -- A LISTED ANSWER is what the command shows of document 01's split list of its leg over the book's sites
  pub answer_list : (c : Command) (es : List Entry) → answer b c ≡ listed es → BookList b c es
  answer_list (Add n l) es h = absurd (done_not_listed es (accepted_listed b (Add n l) es h))
  answer_list (Remove n) es h = absurd (done_not_listed es (accepted_listed b (Remove n) es h))
  answer_list (Move n l) es h = absurd (done_not_listed es (accepted_listed b (Move n l) es h))
  answer_list (ListOf l) es h =
      let f : ListFits b l es = list_accepted b l es h in
      record { leg = l; asked = refl; is = f.is; on_grid = f.on_grid }
  answer_list (Stand l) es h = absurd (done_not_listed es (accepted_listed b (Stand l) es h))
  answer_list Print es h =
      let f : PrintFits b es = print_accepted b es h in
      record { leg = f.line; asked = f.stands; is = f.is; on_grid = leg_ok_lem f.line f.stands }
  answer_list (Begin p) es h = absurd (done_not_listed es (accepted_listed b (Begin p) es h))
  answer_list (Corner p) es h =
      let f : CornerFits b p es = corner_accepted b p es h in
      record {
        leg = leg_to f.tour p;
        asked = ap (λ (o : Option Tour). tour_leg o p) f.runs;
        is = f.is ∙ ap (λ (o : Option Tour). left_out (remembered o) (split_of (leg_to f.tour p) (sites_of b))) (sym f.runs);
        on_grid = record { s = (subst (λ (o : Option Tour). TourOk o (sites_of b)) f.runs ok.tour_ok).on_grid; e = f.on_grid };
      }

  module _ (l : Leg) (on : LegOnGrid l) (es : List Entry) (h : IsSplitList l (sites_of b) es) where
    -- at most 512 entries
    pub list_few : length es ≤ max_sites
    list_few = omega (arith, ok.few, few l (sites_of b) (proper_numbered b ok) es h)

    -- the record's fields hold every entry
    list_small : (e : Entry) → Memᴰ e es → EntrySmall e
    list_small e m =
        let d : e.start.den ≤ max_denominator =
        bounded l (sites_of b) (proper_numbered b ok) on ok.on_grid es h e m in
        let n : e.start.num < e.start.den = start_below l (sites_of b) es h.rules e m in
        record {
          number = omega (arith, (ok.numbers e.site (listed_held l (sites_of b) es h.rules e m)).most);
          num = omega arith;
          den = omega arith;
        }

    -- NOTHING IS CUT OFF: the end of a list of the book is read back from its record, whatever stands behind it
    pub end_few : (fs : List Entry) → EndOf fs es → length fs ≤ max_sites
    end_few fs k = omega (arith, list_few, end_length fs es k)

    pub end_read : (fs : List Entry) → EndOf fs es → (rest : List ℕ) → read_record (record_bytes fs ++ rest) ≡ map listed_of fs
    end_read fs k rest = read_front fs rest (omega (arith, end_few fs k)) (λ e m. list_small e (end_member fs es k e m))

    -- and so is the whole list
    pub list_read : read_record (record_bytes es) ≡ map listed_of es
    list_read = read_record_lem es (omega (arith, list_few)) list_small

  module _ (c : Command) (es : List Entry) (r : BookList b c es) where
    whole_ends : EndOf es (split_of r.leg (sites_of b))
    whole_ends = subst⁻¹ (λ (x : List Entry). EndOf x (split_of r.leg (sites_of b))) r.is (shown_ends b c (split_of r.leg (sites_of b)))

    -- a listed answer has few entries
    pub listed_few : length es ≤ max_sites
    listed_few = end_few r.leg r.on_grid (split_of r.leg (sites_of b)) (split_list r.leg) es whole_ends

    -- and is read back
    pub listed_read : (rest : List ℕ) → read_record (record_bytes es ++ rest) ≡ map listed_of es
    listed_read rest = end_read r.leg r.on_grid (split_of r.leg (sites_of b)) (split_list r.leg) es whole_ends rest

  -- NO RECORD is longer than that of 512 entries
  pub answer_length : (c : Command) → length (record_of (answer b c)) ≤ list_size max_sites
  answer_length c = go (answer b c) refl
    where
      go : (y : Reply) → answer b c ≡ y → length (record_of y) ≤ list_size max_sites
      go done e = omega arith
      go (refused x) e = omega arith
      go (listed es) e =
          let r : BookList b c es = answer_list c es e in
          omega (arith, record_length es, listed_few c es r)
