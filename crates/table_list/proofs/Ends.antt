-- An entry of the stored list that keeps a site out.
-- Assumes nothing.
use mathlib.Core.Path.{◌≡◌, refl, ap, sym, subst, ◌∙◌}
use mathlib.Core.Bool.{Bool, true, false}
use mathlib.Core.Logic.{◌⊎◌, inl, inr}
use mathlib.Core.List.Memᴰ
use mathlib.Core.List.{List, [], ◌∷◌}
use Prim.Native.Nat.{ℕ, zero, suc, ◌+◌, ◌*◌, ◌<◌}
use native.Mathlib.Omega.{arith}
use lib.ListN.{length, get_or}
use Rattle.words.specs.Words.{word_at}
use Rattle.grid.specs.declared.Site.{Site}
use Rattle.grid.specs.declared.Leg.{Leg}
use Rattle.grid.specs.Says.{If}
use Rattle.split.specs.SplitList.{Numbered}
use Rattle.split.specs.Hull.{Point, point_of, points, In}
use Rattle.split.specs.SplitOf.{onto, build}
use Rattle.split.specs.Skip.{Shut, ShutOut}
use Rattle.split.proofs.Skipping.{witness_shuts}
use Rattle.list_row.specs.declared.Vertex.{Vertex}
use Rattle.list_row.specs.Vertices.{point_at, IsVertex}
use Rattle.list_row.specs.Places.{site_at}
use Rattle.book.specs.Book.{holds}
use Rattle.table_header.specs.Header.{length_in}
use Rattle.table_sites.specs.Lines.{lines_in}
use Rattle.table_standing.specs.Layout.{list_start}
use Rattle.table_standing.specs.Standing.{words_from, stored_number}
use Rattle.table_list.specs.Loading.{PlaceOf, NumbersHeld, EntryShuts}
use Rattle.table_list.proofs.Rows.{PointsOf, numbers_in, tail_of, onto_back, Stored, all_numbered, listed_points, words_are}

-- the number of an entry is held
pub entry_held : (b : List ℕ) (i n : ℕ) → NumbersHeld b → i < length_in b → n ≡ stored_number b i → holds n (lines_in b) ≡ true
entry_held b i n s h e = subst (λ (y : ℕ). holds y (lines_in b) ≡ true) (sym e) (s.held i h)

-- the return of `entry_shuts`
module _ (l : Leg) (b : List ℕ) (i : ℕ) (a c : ℕ) where
  entry_shut : (n p : ℕ) (v : Vertex) → i < length_in b → n ≡ stored_number b i → PlaceOf b n p
      → IsVertex l b p v → Shut (record { a = v.a; c = v.c }) (record { a = v.a; c = v.c }) a c → EntryShuts l b a c
  entry_shut n p v h e q hv s =
      record {
        entry = i;
        place = p;
        within = h;
        names = subst (λ (x : ℕ). PlaceOf b x p) e q;
        shut = rw (hv.a_is, hv.c_is) at s;
      }

  pub entry_says : (n p : ℕ) (v : Vertex) → i < length_in b → n ≡ stored_number b i → PlaceOf b n p → IsVertex l b p v
      → (r : Bool) → If r (Shut (record { a = v.a; c = v.c }) (record { a = v.a; c = v.c }) a c)
      → If r (EntryShuts l b a c)
  entry_says n p v h e q hv true s = entry_shut n p v h e q hv s
  entry_says n p v h e q hv false s = tt

pub shut_true : (l : Leg) (b : List ℕ) (a c : ℕ) (r : Bool) → r ≡ true → If r (EntryShuts l b a c) → EntryShuts l b a c
shut_true l b a c r e h = rw e at h

-- a place with the number of word j is that of point j
words_point : (l : Leg) (b : List ℕ) → Numbered (lines_in b) → (f : List Point) → PointsOf l (lines_in b) f → (o n : ℕ) → words_from b o n ≡ numbers_in f → (j : ℕ) → j < n
    → (p : ℕ) → PlaceOf b (word_at b (o + 2 * j)) p → In (point_at l b p) f
unfolding words_from
words_point l b u f pf o zero e j h p q = absurd (omega arith)
words_point l b u [] pf o (suc n) e j h p q = absurd (let z : ◌≡◌ {A = ℕ} (suc (length (words_from b (o + 2) n))) 0 = ap length e in omega arith)
words_point l b u (v ∷ f) pf o (suc n) e zero h p q =
    let z : o + 2 * 0 ≡ o = omega arith in
    let pv = pf v (Memᴰ.head refl) in
    let same : site_at b p ≡ v.site = u.one (site_at b p) v.site q.line pv.0 (q.number ∙ ap (word_at b) z ∙ ap (λ (x : List ℕ). get_or x 0 0) e) in
    Memᴰ.head (ap (point_of l) same ∙ sym pv.1)
words_point l b u (v ∷ f) pf o (suc n) e (suc j) h p q =
    let z : o + 2 * suc j ≡ o + 2 + 2 * j = omega arith in
    Memᴰ.tail
    (words_point l b u f (λ x y. pf x (Memᴰ.tail y)) (o + 2) n (ap tail_of e) j (omega arith) p (subst (λ (x : ℕ). PlaceOf b (word_at b x) p) z q))

module _ (l : Leg) (s : List Site) (b : List ℕ) (st : Stored l s b) (a c : ℕ) where
  -- AN ENTRY'S SITE is a vertex of the hull, so what it shuts out changes nothing
  pub entry_shuts_out : EntryShuts l b a c → ShutOut (build (points l s)) a c
  entry_shuts_out h =
      witness_shuts (record { u = point_at l b h.place; v = point_at l b h.place; has_u = there; has_v = there; shut = h.shut })
    where
      here : In (point_at l b h.place) (onto (build (points l s)) [])
      here =
          words_point l b (all_numbered l s b st) (onto (build (points l s)) []) (listed_points l s b st) list_start (length_in b) (words_are l s b st) h.entry h.within
          h.place h.names

      go : In (point_at l b h.place) (build (points l s)) ⊎ In (point_at l b h.place) [] → In (point_at l b h.place) (build (points l s))
      go (inl j) = j
      go (inr j) = absurd (Memᴰ.not-nil j)

      there : In (point_at l b h.place) (build (points l s))
      there = go (onto_back (build (points l s)) [] (point_at l b h.place) here)
