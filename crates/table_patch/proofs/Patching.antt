-- The standing list, patched: the table is sound, and its book is as it was.
-- Assumes nothing.
use mathlib.Core.Path.{◌≡◌, refl, sym, ap, subst, ◌∙◌}
use mathlib.Core.Bool.{Bool, true, false, true≢false}
use mathlib.Core.List.{List, [], ◌∷◌, Memᴰ}
use Rattle.std.specs.Prelude.{Option, None, Some}
use Prim.Native.Nat.{ℕ, suc, ◌+◌, ◌≤◌}
use native.Mathlib.Omega.{arith}
use lib.ListN.{length}
use Rattle.limits.specs.Limits.{max_sites}
use Rattle.grid.specs.declared.Site.{Site}
use Rattle.grid.specs.declared.Leg.{Leg}
use Rattle.grid.specs.Position.{LegOnGrid}
use Rattle.grid.specs.Says.{Says, If}
use Rattle.split.specs.SplitList.{Entry, IsSplitList, Numbered, SameSites}
use Rattle.split.specs.Hull.{points}
use Rattle.split.specs.SplitOf.{build, split_of}
use Rattle.split.proofs.Exists.{split_is, split_only}
use Rattle.split.proofs.Insertion.{build_hull}
use Rattle.split.proofs.Skipping.{skip_hull}
use Rattle.split.proofs.Dealing.{order_free_of, hull_list}
use Rattle.split.proofs.Unlisted.{unlisted}
use Rattle.list_row.specs.Places.{site_at}
use Rattle.list_row.specs.declared.Vertex.{Vertex}
use Rattle.list_row.specs.Vertices.{point_at, IsVertex, row_bytes, Held, entries_in}
use Rattle.list_row.proofs.Listing.{lists_is}
use Rattle.list_skip.specs.Skipping.{Space, Dealt}
use Rattle.book.specs.Book.{sites_of, strike_line, holds, list_of, standing_list}
use Rattle.book.specs.Proper.{Rising, LegOk}
use Rattle.book.proofs.Lines.{HeldLine, holds_member, member_holds, strike_from, strike_sites, strike_none, strike_length}
use Rattle.table_header.specs.Header.{leg_in, length_in}
use Rattle.table_sites.specs.Lines.{lines_in}
use Rattle.table_sites.proofs.Reading.{lines_length}
use Rattle.table_standing.specs.Standing.{standing_in, numbers_of, ListStored}
use Rattle.table_standing.proofs.Numbers.{standing_length}
use Rattle.table_rules.specs.Table.{book_of, Whole, Sound}
use Rattle.table_rules.proofs.Books.{whole_numbered, sound_few}
use Rattle.demands.specs.Step.{Holds}
use Rattle.table_list.specs.Loading.{PlaceOf, NumbersHeld, PlacesOf, EntryShuts}
use Rattle.table_list.proofs.Rows.{Stored, stored_few, stored_held, places_held, places_list}
use Rattle.table_list.proofs.Ends.{shut_true, entry_shuts_out}
use Rattle.table_patch.specs.Patching.{ListsOthers, Patchable}
use Rattle.table_patch.proofs.Restanding.{stored_holds}

numbered_same : (s u : List Site) → SameSites u s → Numbered u → Numbered s
numbered_same s u w n =
    record { small = λ p i. n.small p (w.back p i); one = λ p q i j. n.one p q (w.back p i) (w.back q j) }

-- ---- a site that is not named may go

numbers_in_lem : (es : List Entry) (f : Entry) → Memᴰ f es → Memᴰ f.site.number (numbers_of es)
unfolding numbers_of
numbers_in_lem [] f x' = elim x' [ ]
numbers_in_lem (e ∷ es) f (Memᴰ.head q) = Memᴰ.head (ap (λ (x : Entry). x.site.number) q)
numbers_in_lem (e ∷ es) f (Memᴰ.tail m) = Memᴰ.tail (numbers_in_lem es f m)

module _ (l : Leg) (s : List Site) (n : ℕ) (r : Rising s) (num : Numbered s) where
  numbered_struck : Numbered (strike_line n s)
  numbered_struck =
      record { small = λ p m. num.small p (strike_from n s p m); one = λ p q i j. num.one p q (strike_from n s p i) (strike_from n s q j) }

  held_gone : (h : HeldLine n s) → ¬ Memᴰ n (numbers_of (split_of l s)) → split_of l s ≡ split_of l (strike_line n s)
  held_gone h out = e ∙ go (split_of l (p ∷ u)) (split_is l (p ∷ u) nu) (λ f m. out (subst (λ (x : List Entry). Memᴰ n (numbers_of x)) (sym e) (named f m)))
    where
      p : Site
      p = h.line

      u : List Site
      u = strike_line n s

      same : SameSites s (p ∷ u)
      same = strike_sites n s p r h.held h.named

      nu : Numbered (p ∷ u)
      nu = numbered_same (p ∷ u) s same num

      e : split_of l s ≡ split_of l (p ∷ u)
      e = order_free_of l s (p ∷ u) num nu same

      named : (f : Entry) → Memᴰ f (split_of l (p ∷ u)) × (f.site ≡ p) → Memᴰ n (numbers_of (split_of l (p ∷ u)))
      named f m =
          subst (λ (x : ℕ). Memᴰ x (numbers_of (split_of l (p ∷ u)))) (ap (λ (x : Site). x.number) m.1 ∙ h.named) (numbers_in_lem (split_of l (p ∷ u)) f m.0)

      go : (es : List Entry) → IsSplitList l (p ∷ u) es → ((f : Entry) → Memᴰ f es × (f.site ≡ p) → ⊥) → es ≡ split_of l u
      go [] k d = absurd (let z : ◌≡◌ {A = ℕ} (suc (length u)) 0 = ap length k.opens in omega arith)
      go (x ∷ es) k d =
          split_only l u u numbered_struck (record { to = λ q m. m; back = λ q m. m }) (x ∷ es)
          (unlisted l u p x es (λ f m q. d f (m, q)) k)

  -- THE LIST STAYS where a site goes that it does not name
  pub unnamed_gone : ¬ Memᴰ n (numbers_of (split_of l s)) → split_of l s ≡ split_of l (strike_line n s)
  unnamed_gone out = go (holds n s) refl
    where
      go : (c : Bool) → holds n s ≡ c → split_of l s ≡ split_of l (strike_line n s)
      go true h = held_gone (holds_member n s h) out
      go false h = ap (split_of l) (sym (strike_none n s h))

-- with a leg or without
pub unnamed_list : (o : Option Leg) (s : List Site) (n : ℕ) → Rising s → Numbered s → ¬ Memᴰ n (numbers_of (list_of o s))
    → numbers_of (list_of o s) ≡ numbers_of (list_of o (strike_line n s))
unnamed_list None s n r num out = refl
unnamed_list (Some l) s n r num out = ap numbers_of (unnamed_gone l s n r num out)

-- WHEN ONE LINE HAS CHANGED in a sound table, and its list has not
pub patchable : (b b₁ : List ℕ) (n : ℕ) → Sound b → Whole b₁ → leg_in b₁ ≡ leg_in b → (length_in b ≤ max_sites → standing_in b₁ ≡ standing_in b)
    → strike_line n (lines_in b₁) ≡ strike_line n (lines_in b) → Patchable n b₁
patchable b b₁ n s w leg kept others =
    let list : standing_in b₁ ≡ standing_in b = kept (sound_few b s) in
    record {
      whole = w;
      leg = subst LegOk (sym leg) s.standing.leg;
      few = omega (arith, standing_length b, standing_length b₁, ap length list, sound_few b s);
      others = λ out. record {
        list = list ∙ s.standing.list
            ∙ unnamed_list (leg_in b) (lines_in b) n s.whole.sites.rising (whole_numbered b s.whole)
            (λ m. out (subst (Memᴰ n) (sym (list ∙ s.standing.list)) m))
            ∙ sym (λ i. numbers_of (list_of (leg i) (others i)));
      };
    }

-- ---- nothing to do

same_holds : (b : List ℕ) → Whole b → LegOk (leg_in b)
    → standing_in b ≡ numbers_of (standing_list (book_of b)) → Holds b (book_of b)
same_holds b w leg e = record { sound = record { whole = w; standing = record { leg = leg; list = e } }; book = refl }

pub unset_holds : (b : List ℕ) (n : ℕ) (s : Option Leg) → Whole b → LegOk (leg_in b) → ListsOthers n b → s ≡ leg_in b → s ≡ None → Holds b (book_of b)
unset_holds b n s w leg o q u =
    let e : leg_in b ≡ None = sym q ∙ u in
    same_holds b w leg
    (o.list ∙ ap (λ (x : Option Leg). numbers_of (list_of x (strike_line n (sites_of (book_of b))))) e
    ∙ sym (ap (λ (x : Option Leg). numbers_of (list_of x (sites_of (book_of b)))) e))

pub along_is : (b : List ℕ) (s : Option Leg) (l : Leg) → s ≡ leg_in b → s ≡ Some l → leg_in b ≡ Some l
along_is b s l q u = sym q ∙ u

-- ---- what the test says

module _ (b : List ℕ) (n : ℕ) (h : Patchable n b) where
  pub patch_others : (q : Bool) → Says q (Memᴰ n (standing_in b)) → q ≡ false → ListsOthers n b
  patch_others true s e = absurd (true≢false e)
  patch_others false s e = h.others s

  -- A SITE THAT HAS GONE and was not named
  pub patch_gone : (q : Bool) → Says q (Memᴰ n (standing_in b)) → q ≡ false → holds n (lines_in b) ≡ false → Holds b (book_of b)
  patch_gone q s e gone =
      same_holds b h.whole h.leg
      ((patch_others q s e).list
      ∙ ap (λ (x : List Site). numbers_of (list_of (leg_in b) x)) (strike_none n (sites_of (book_of b)) gone))

-- ---- one site dealt in

module _ (b : List ℕ) (n : ℕ) (l : Leg) (w : Whole b) (leg : LegOk (leg_in b)) (set : leg_in b ≡ Some l) (o : ListsOthers n b) (p : ℕ) (q : PlaceOf b n p) where
  held : holds n (lines_in b) ≡ true
  held = member_holds n (lines_in b) (site_at b p) q.line q.number

  fewer : 1 + length (strike_line n (lines_in b)) ≤ max_sites
  fewer = omega (arith, strike_length n (lines_in b) w.sites.rising held, lines_length b, w.sites.few)

  others : Stored l (strike_line n (sites_of (book_of b))) b
  others =
      record {
        sites = w.sites;
        lines = strike_from n (lines_in b);
        few = omega (arith, fewer);
        list = o.list ∙ ap (λ (x : Option Leg). numbers_of (list_of x (strike_line n (sites_of (book_of b))))) set;
      }

  pub others_held : NumbersHeld b
  others_held = stored_held l _ b others

  pub others_leg : LegOnGrid l
  others_leg = subst LegOk set leg

  -- KEPT OUT by an entry: the list of the others is that of all
  pub shut_holds : (x : Vertex) → IsVertex l b p x → (c : Bool) → c ≡ true → If c (EntryShuts l b x.a x.c) → Holds b (book_of b)
  unfolding split_of
  shut_holds x v c e h =
      let same : SameSites (lines_in b) (site_at b p ∷ strike_line n (lines_in b)) = strike_sites n (lines_in b) (site_at b p) w.sites.rising q.line q.number in
      let num = whole_numbered b w in
      let out = entry_shuts_out l _ b others x.a x.c (shut_true l b x.a x.c c e h) in
      let hull = skip_hull out (point_at l b p) (omega (arith, v.a_is)) (omega (arith, v.c_is)) (build_hull (points l (strike_line n (lines_in b)))) in
      let list = hull_list l (site_at b p ∷ strike_line n (lines_in b)) (lines_in b)
      (numbered_same (site_at b p ∷ strike_line n (lines_in b)) (lines_in b) same num) num same
      (build (points l (strike_line n (lines_in b)))) hull in
      same_holds b w leg
      (others.list ∙ ap numbers_of list ∙ sym (ap (λ (x : Option Leg). numbers_of (list_of x (sites_of (book_of b)))) set))

  module _ (k : ℕ) (r r' : List ℕ) (room : row_bytes ≤ length r) (m : PlacesOf b r r' k) where
    pub others_row : Held l b r' k
    others_row = places_held l _ b others k r r' (omega arith) m

    pub others_space : Space l b r' k p
    others_space h = absurd (omega (arith, m.count, stored_few l _ b others, fewer))

    pub others_rows : row_bytes ≤ length r'
    others_rows = omega (arith, m.only.len)

    -- DEALT IN
    pub dealt_holds : (j : ℕ) (r'' b' : List ℕ) → Dealt l b r' k p r'' j → ListStored (entries_in l b r'' j) b b' → Holds b' (book_of b)
    dealt_holds j r'' b' d st =
        let same : SameSites (lines_in b) (site_at b p ∷ strike_line n (lines_in b)) = strike_sites n (lines_in b) (site_at b p) w.sites.rising q.line q.number in
        let num = whole_numbered b w in
        let list = lists_is l b r'' j (site_at b p ∷ strike_line n (lines_in b)) (lines_in b)
        (numbered_same (site_at b p ∷ strike_line n (lines_in b)) (lines_in b) same num) num same
        (d.lists (strike_line n (lines_in b)) (places_list l _ b others k r r' (omega arith) m)) in
        stored_holds b b' w (entries_in l b r'' j) st leg
        (ap numbers_of list ∙ sym (ap (λ (x : Option Leg). numbers_of (list_of x (sites_of (book_of b)))) set))
