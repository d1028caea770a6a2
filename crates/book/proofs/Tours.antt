-- Tours over turns: what the book remembers is what a listener knows, and an answered 43 tells its leg.
-- Assumes nothing.
use mathlib.Core.Path.{◌≡◌, refl, sym, ap, ◌∙◌, subst}
use mathlib.Core.Logic.{◌≢◌}
use Rattle.std.specs.Prelude.{Option, None, Some}
use mathlib.Core.List.{List, [], ◌∷◌, ◌++◌, map}
use Prim.Native.Nat.{ℕ}
use native.Mathlib.Omega.{arith}
use lib.ListN.{length}
use Rattle.grid.specs.declared.Position.{Position}
use Rattle.split.specs.SplitList.{Entry, IsSplitList, name_from}
use Rattle.split.specs.SplitOf.{split_of}
use Rattle.split.proofs.Exists.{split_is}
use Rattle.records.specs.Decode.{Listed, listed_of}
use Rattle.book.specs.declared.Command.{Command}
use Rattle.book.specs.declared.Command.TheVariants.{Add, Remove, Move, List as ListOf, Stand, Print, Begin, Corner}
use Rattle.book.specs.declared.Tour.{Tour}
use Rattle.book.specs.Tour.{leg_to, tour_leg, last_number, left_out, goes_on}
use Rattle.book.specs.Book.{Book, sites_of, list_of, change}
use Rattle.book.specs.Proper.{TourFits, TourOk, Proper}
use Rattle.book.specs.Reply.{Reply, done, refused, listed}
use Rattle.book.specs.Answer.{answer, after}
use Rattle.book.specs.Run.{Turn, after_all}
use Rattle.book.specs.Listener.{said_list, Exchange, Trip, onward, hear, hear_all, after_told, after_heard, last_heard, said_at, LegTold, heard_leg}
use Rattle.book.proofs.Answers.{answer_list_done, done_not_listed, accepted_listed, CornerFits, corner_accepted, corner_not_done}
use Rattle.book.proofs.ProperBooks.{proper_numbered}
use Rattle.book.proofs.LegRecords.{last_read, last_append, left_last, left_said, opens_some}
use Rattle.book.proofs.Runs.{Answered, answered_at}
use Rattle.book.proofs.Hearing.{told_of, heard_of, Along}

-- a tour that was heard, as the book has it
abbrev pub as_tour : Option Trip → Option Tour
as_tour None = None
as_tour (Some k) = Some (record { corner = k.corner; last = last_heard k })

-- ---- one turn

module _ (b : Book) (ok : Proper b) where
  whole_is : (k : Tour) (p : Position) → IsSplitList (leg_to k p) (sites_of b) (split_of (leg_to k p) (sites_of b))
  whole_is k p = split_is (leg_to k p) (sites_of b) (proper_numbered b ok)

  whole_some : (k : Tour) (p : Position) → length (sites_of b) ≢ 0 → split_of (leg_to k p) (sites_of b) ≢ []
  whole_some k p n = opens_some (leg_to k p) (sites_of b) (split_of (leg_to k p) (sites_of b)) (whole_is k p) n

  module _ (h : Option Trip) (e : b.tour ≡ as_tour h) where
    corner_heard : (p : Position) (es : List Entry) → CornerFits b p es
        → goes_on b.tour p (list_of (tour_leg b.tour p) (sites_of b)) ≡ as_tour (onward h p (map listed_of es))
    corner_heard p es f = go h e
      where
        go : (o : Option Trip) → b.tour ≡ as_tour o
            → goes_on b.tour p (list_of (tour_leg b.tour p) (sites_of b)) ≡ as_tour (onward o p (map listed_of es))
        go None q = ap (λ (x : Option Tour). goes_on x p (list_of (tour_leg x p) (sites_of b))) q
        go (Some k) q =
            let t : Tour = record { corner = k.corner; last = last_heard k } in
            let same : f.tour ≡ t = cc in
            let last : last_number t.last (left_out t.last (split_of (leg_to t p) (sites_of b))) ≡ last_number None (split_of (leg_to t p) (sites_of b)) =
            left_last t.last (split_of (leg_to t p) (sites_of b)) (whole_some t p f.some_site) in
            let shown : es ≡ left_out t.last (split_of (leg_to t p) (sites_of b)) =
            f.is ∙ ap (λ (x : Tour). left_out x.last (split_of (leg_to x p) (sites_of b))) same in
            ap (λ (x : Option Tour). goes_on x p (list_of (tour_leg x p) (sites_of b))) q
            ∙ ap (λ (n : Option ℕ). Some (record { corner = p; last = n }))
            (sym (last_append None k.entries (map listed_of es) ∙ last_read (last_heard k) es
            ∙ ap (λ (x : List Entry). last_number (last_heard k) x) shown ∙ last))

    done_heard : (c : Command) → answer b c ≡ done → (change c b).tour ≡ as_tour (hear h c (told_of done))
    unfolding change
    done_heard (Add n l) a = refl
    done_heard (Remove n) a = refl
    done_heard (Move n l) a = refl
    done_heard (ListOf l) a = e
    done_heard (Stand l) a = e
    done_heard Print a = e
    done_heard (Begin p) a = refl
    done_heard (Corner p) a = absurd (corner_not_done b p a)

    listed_heard : (c : Command) (es : List Entry) → answer b c ≡ listed es → (change c b).tour ≡ as_tour (hear h c (told_of (listed es)))
    unfolding change
    listed_heard (Add n l) es a = absurd (done_not_listed es (accepted_listed b (Add n l) es a))
    listed_heard (Remove n) es a = absurd (done_not_listed es (accepted_listed b (Remove n) es a))
    listed_heard (Move n l) es a = absurd (done_not_listed es (accepted_listed b (Move n l) es a))
    listed_heard (ListOf l) es a = e
    listed_heard (Stand l) es a = absurd (done_not_listed es (accepted_listed b (Stand l) es a))
    listed_heard Print es a = e
    listed_heard (Begin p) es a = absurd (done_not_listed es (accepted_listed b (Begin p) es a))
    listed_heard (Corner p) es a = corner_heard p es (corner_accepted b p es a)

    -- WHAT THE BOOK REMEMBERS IS WHAT IS HEARD
    turn_heard : (c : Command) (y : Reply) → y ≡ answer b c → (after b c y).tour ≡ as_tour (hear h c (told_of y))
    turn_heard c done a = done_heard c (sym a)
    turn_heard c (refused x) a = e
    turn_heard c (listed es) a = listed_heard c es (sym a)

    -- AN ANSWERED 43 TELLS ITS LEG
    corner_told : (p : Position) (es : List Entry) → answer b (Corner p) ≡ listed es → LegTold b h p (map listed_of es)
    corner_told p es a = go h e
      where
        f : CornerFits b p es
        f = corner_accepted b p es a

        go : (o : Option Trip) → b.tour ≡ as_tour o → LegTold b o p (map listed_of es)
        go None q = absurd (let z : ◌≡◌ {A = ℕ} 0 1 = (let s = f.runs in cc) in omega arith)
        go (Some k) q = by (split_of (leg_to t p) (sites_of b)) (whole_is t p) refl (whole_some t p f.some_site)
          where
            t : Tour
            t = record { corner = k.corner; last = last_heard k }

            same : f.tour ≡ t
            same = let s = f.runs in cc

            shown : es ≡ left_out (last_heard k) (split_of (leg_to t p) (sites_of b))
            shown = f.is ∙ ap (λ (x : Tour). left_out x.last (split_of (leg_to x p) (sites_of b))) same

            fits : TourFits t (sites_of b)
            fits = subst (λ (x : Option Tour). TourOk x (sites_of b)) q ok.tour_ok

            by : (w : List Entry) → IsSplitList (leg_to t p) (sites_of b) w → split_of (leg_to t p) (sites_of b) ≡ w → w ≢ [] → LegTold b (Some k) p (map listed_of es)
            by [] r z n = absurd (n refl)
            by (x ∷ w) r z n =
                let shows : es ≡ left_out (last_heard k) (x ∷ w) = shown ∙ ap (left_out (last_heard k)) z in
                record {
                  tour = k;
                  heard = refl;
                  whole = x ∷ w;
                  by4_c = answer_list_done b (leg_to t p) (record { s = fits.on_grid; e = f.on_grid }) f.some_site ∙ ap listed z;
                  everywhere = λ u fu.
                      record {
                        site = name_from u x w;
                        names = refl;
                        told =
                            subst (λ (y : List Entry). said_at u (last_heard k) (map listed_of y) ≡ Some (name_from u x w).number) (sym shows)
                            (left_said (leg_to t p) (sites_of b) u fu (last_heard k) x w r);
                      };
                  record_is = ap (map listed_of) shows;
                }

-- ---- turns

-- at the end of turns that keep the rules
pub along_end : (b : Book) (ts us : List Turn) → Along b (ts ++ us) → Proper (after_all b ts)
along_end b [] [] h = h
along_end b [] (u ∷ us) h = h.0
along_end b (t ∷ ts) us h = along_end (after b t.command t.reply) ts us h.1

-- the book after what was heard of turns is the book after them
pub heard_book : (b : Book) (ts : List Turn) → after_heard b (map heard_of ts) ≡ after_all b ts
heard_book b [] = refl
heard_book b (t ∷ ts) = ap (λ (x : Book). after_heard x (map heard_of ts)) (same t.reply) ∙ heard_book (after b t.command t.reply) ts
  where
    same : (y : Reply) → after_told b t.command (told_of y) ≡ after b t.command y
    same done = refl
    same (refused x) = refl
    same (listed es) = refl

-- ALONG TURNS THE LISTENER KEEPS UP
pub along_heard : (b : Book) (h : Option Trip) → b.tour ≡ as_tour h → (ts us : List Turn) → Answered b (ts ++ us) → Along b (ts ++ us)
    → (after_all b ts).tour ≡ as_tour (hear_all h (map heard_of ts))
along_heard b h e [] us a k = e
along_heard b h e (t ∷ ts) us a k =
    along_heard (after b t.command t.reply) (hear h t.command (told_of t.reply))
    (turn_heard b (along_end b [] (t ∷ (ts ++ us)) k) h e t.command t.reply a.0) ts us a.1 k.1

-- ---- what was heard, and turns

-- a list told was a list answered
list_told : (y : Reply) (fs : List Listed) → told_of y ≡ said_list fs → (es : List Entry) × ((y ≡ listed es) × (fs ≡ map listed_of es))
list_told done fs e = absurd (let z : ◌≡◌ {A = ℕ} 0 1 = cc in omega arith)
list_told (refused x) fs e = absurd (let z : ◌≡◌ {A = ℕ} 0 1 = cc in omega arith)
list_told (listed es) fs e = (es, (refl, cc))

-- the turns before one that was heard, that one, and those behind it
pub record Parted (us : List Turn) (past : List Exchange) (x : Exchange) : Type 0 where
  pub before : List Turn
  pub here : Turn
  pub behind : List Turn
  pub turns : us ≡ before ++ (here ∷ behind)
  pub heard_before : past ≡ map heard_of before
  pub heard_here : x ≡ heard_of here

-- one turn more before it
parted_more : (u : Turn) (us : List Turn) (y : Exchange) (past : List Exchange) (x : Exchange) → heard_of u ≡ y → Parted us past x → Parted (u ∷ us) (y ∷ past) x
parted_more u us y past x e r =
    record {
      before = u ∷ r.before;
      here = r.here;
      behind = r.behind;
      turns = ap (λ (z : List Turn). u ∷ z) r.turns;
      heard_before = λ i. sym e i ∷ r.heard_before i;
      heard_here = r.heard_here;
    }

pub parted : (us : List Turn) (past : List Exchange) (x : Exchange) (later : List Exchange) → map heard_of us ≡ past ++ (x ∷ later) → Parted us past x
parted [] [] x later e = absurd (let z : ◌≡◌ {A = ℕ} 0 1 = cc in omega arith)
parted [] (y ∷ past) x later e = absurd (let z : ◌≡◌ {A = ℕ} 0 1 = cc in omega arith)
parted (u ∷ us) [] x later e = record { before = []; here = u; behind = us; turns = refl; heard_before = refl; heard_here = cc }
parted (u ∷ us) (y ∷ past) x later e =
    let q : heard_of u ≡ y = cc in
    let r : map heard_of us ≡ past ++ (x ∷ later) = cc in
    parted_more u us y past x q (parted us past x later r)

-- the same of an equal book, tour and record
recast : {b d : Book} {o h : Option Trip} {p : Position} {es fs : List Listed} → d ≡ b → h ≡ o → fs ≡ es → LegTold b o p es → LegTold d h p fs
recast e f g r = rw (e, f, g) r

-- A 43 THAT WAS HEARD TELLS ITS LEG
pub heard_told : (b : Book) → b.tour ≡ None → (us : List Turn) → Answered b us → Along b us
    → (past later : List Exchange) (p : Position) (fs : List Listed) → map heard_of us ≡ past ++ (heard_leg p fs ∷ later)
    → LegTold (after_heard b past) (hear_all None past) p fs
heard_told b n us a k past later p fs e =
    let r = parted us past (heard_leg p fs) later e in
    let all = r.before ++ (r.here ∷ r.behind) in
    let a' : Answered b all = subst (λ (x : List Turn). Answered b x) r.turns a in
    let k' : Along b all = subst (λ (x : List Turn). Along b x) r.turns k in
    let told : told_of r.here.reply ≡ said_list fs = sym (ap (λ (x : Exchange). x.told) r.heard_here) in
    let command : r.here.command ≡ Corner p = sym (ap (λ (x : Exchange). x.command) r.heard_here) in
    let (es, q) = list_told r.here.reply fs told in
    let said : answer (after_all b r.before) (Corner p) ≡ listed es =
    ap (answer (after_all b r.before)) (sym command) ∙ sym (answered_at b r.before r.here r.behind a') ∙ q.0 in
    let one : LegTold (after_all b r.before) (hear_all None (map heard_of r.before)) p (map listed_of es) =
    corner_told (after_all b r.before) (along_end b r.before (r.here ∷ r.behind) k') (hear_all None (map heard_of r.before))
    (along_heard b None n r.before (r.here ∷ r.behind) a' k') p es said in
    recast (ap (after_heard b) r.heard_before ∙ heard_book b r.before) (ap (hear_all None) r.heard_before) q.1 one
