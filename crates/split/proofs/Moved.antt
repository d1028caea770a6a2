-- A list does not depend on the corner from which coordinates are counted.
-- Assumes nothing.
use mathlib.Core.Path.{◌≡◌, refl, ap, ◌∙◌}
use mathlib.Core.List.{List, [], ◌∷◌, map}
use Prim.Native.Nat.{ℕ, ◌+◌, ◌*◌, ◌-◌, ◌≤◌, ◌<◌}
use native.Mathlib.Decide.{dec_le}
use native.Mathlib.Omega.{arith}
use Rattle.grid.specs.declared.Leg.{Leg}
use Rattle.grid.specs.declared.Site.{Site}
use Rattle.grid.specs.declared.Position.{Position}
use Rattle.grid.specs.Position.{squared_difference, distance}
use Rattle.grid.specs.Side.{OnTheRight, on_the_right?}
use Rattle.grid.specs.Fraction.{zero_fraction}
use Rattle.grid.specs.Coordinate.{from_word, word_position}
use Rattle.split.specs.SplitList.{Entry, rank_by, rank}
use Rattle.split.specs.Hull.{Point, point_of, points, Under}
use Rattle.split.specs.Choice.{pick}
use Rattle.split.specs.SplitOf.{hides?, under?, push, insert, build, changeover, entries_after, entries_along, onto, entries_of, split_of}
use Rattle.split.specs.Moved.{moved_position, moved_leg, moved_site, moved_entry, earlier_word, earlier_position}

-- Points that have other sites: the hull asks for their distances and orders alone.
module _ (f : Site → Site) where
  abbrev relabel : Point → Point
  relabel p = record { a = p.a; c = p.c; order = p.order; site = f p.site }

  abbrev relabelled : Entry → Entry
  relabelled e = record { site = f e.site; start = e.start }

  -- a choice by a decision of the same
  choose : {A B : Type 0} {x' y' : List Point} (x y : List Point) (d : Dec A) (e : Dec B) → (A → B) → (B → A) → x' ≡ map relabel x → y' ≡ map relabel y
      → pick d x' y' ≡ map relabel (pick e x y)
  choose x y (yes a) (yes b) to back h k = h
  choose x y (yes a) (no b) to back h k = absurd (b (to a))
  choose x y (no a) (yes b) to back h k = absurd (a (back b))
  choose x y (no a) (no b) to back h k = k

  under_to : (x u : Point) (l : List Point) → Under (relabel x) (relabel u ∷ map relabel l) → Under x (u ∷ l)
  under_to x u [] h = record { right = h.right; down = h.down }
  under_to x u (s ∷ l) h = (record { right = h.0.right; down = h.0.down }, h.1)

  under_back : (x u : Point) (l : List Point) → Under x (u ∷ l) → Under (relabel x) (relabel u ∷ map relabel l)
  under_back x u [] h = record { right = h.right; down = h.down }
  under_back x u (s ∷ l) h = (record { right = h.0.right; down = h.0.down }, h.1)

  push_relabelled : (x : Point) (l : List Point) → push (relabel x) (map relabel l) ≡ map relabel (push x l)
  unfolding push
  push_relabelled x [] = refl
  push_relabelled x (u ∷ l) =
      choose (u ∷ l) (pick (under? x (u ∷ l)) (x ∷ u ∷ l) (push x l)) (hides? (relabel u) (relabel x)) (hides? u x) (λ h. h) (λ h. h) refl
      (choose (x ∷ u ∷ l) (push x l) (under? (relabel x) (relabel u ∷ map relabel l)) (under? x (u ∷ l)) (under_to x u l) (under_back x u l) refl (push_relabelled x l))

  insert_relabelled : (p : Point) (l : List Point) → insert (relabel p) (map relabel l) ≡ map relabel (insert p l)
  unfolding insert
  insert_relabelled p [] = refl
  insert_relabelled p (u ∷ l) =
      choose (push p (u ∷ l)) (push u (insert p l)) (dec_le u.a p.a) (dec_le u.a p.a) (λ h. h) (λ h. h) (push_relabelled p (u ∷ l))
      (ap (push (relabel u)) (insert_relabelled p l) ∙ push_relabelled u (insert p l))

  build_relabelled : (Q : List Point) → build (map relabel Q) ≡ map relabel (build Q)
  unfolding build
  build_relabelled [] = refl
  build_relabelled (p ∷ Q) = ap (insert (relabel p)) (build_relabelled Q) ∙ insert_relabelled p (build Q)

  onto_relabelled : (r l : List Point) → onto (map relabel r) (map relabel l) ≡ map relabel (onto r l)
  onto_relabelled [] l = refl
  onto_relabelled (w ∷ r) l = onto_relabelled r (w ∷ l)

  after_relabelled : (v : Point) (r : List Point) → entries_after (relabel v) (map relabel r) ≡ map relabelled (entries_after v r)
  after_relabelled v [] = refl
  after_relabelled v (w ∷ r) = ap (λ (es : List Entry). record { site = f w.site; start = changeover v w } ∷ es) (after_relabelled w r)

  along_relabelled : (r : List Point) → entries_along (map relabel r) ≡ map relabelled (entries_along r)
  along_relabelled [] = refl
  along_relabelled (v ∷ r) = ap (λ (es : List Entry). record { site = f v.site; start = zero_fraction } ∷ es) (after_relabelled v r)

  entries_relabelled : (h : List Point) → entries_of (map relabel h) ≡ map relabelled (entries_of h)
  entries_relabelled h = ap entries_along (onto_relabelled h []) ∙ along_relabelled (onto h [])

word_moved : (w : ℕ) → w < 65536 → earlier_word w ≤ 16000 → from_word w ≡ earlier_word w + 4000
unfolding from_word
word_moved w h k = omega arith

-- ALL THAT WAS ON THE EARLIER GRID is 4,000 steps farther from this grid's corner
pub earlier_moved : (e n : ℕ) → e < 65536 → n < 65536 → earlier_word e ≤ 16000 → earlier_word n ≤ 16000 → word_position e n ≡ moved_position 4000 (earlier_position e n)
earlier_moved e n he hn ge gn = λ i. record { east = word_moved e he ge i; north = word_moved n hn gn i }

difference_moved : (k a b : ℕ) → squared_difference (a + k) (b + k) ≡ squared_difference a b
unfolding squared_difference
difference_moved k a b =
    let e : ((a + k) - (b + k)) + ((b + k) - (a + k)) ≡ (a - b) + (b - a) = omega arith in
    ap (λ (x : ℕ). x * x) e

distance_moved : (k : ℕ) (p q : Position) → distance (moved_position k p) (moved_position k q) ≡ distance p q
unfolding distance
distance_moved k p q = λ i. difference_moved k p.east q.east i + difference_moved k p.north q.north i

module _ (k : ℕ) (l : Leg) where
  rank_moved : (p : Site) → rank (moved_leg k l) (moved_site k p) ≡ rank l p
  unfolding rank OnTheRight
  rank_moved p = go (on_the_right? (moved_leg k l) (moved_position k p.position)) (on_the_right? l p.position)
    where
      go : (d : Dec (OnTheRight (moved_leg k l) (moved_position k p.position))) (f : Dec (OnTheRight l p.position))
          → rank_by d p.number ≡ rank_by f p.number
      go (yes a) (yes b) = refl
      go (yes a) (no b) = absurd (b (omega arith))
      go (no a) (yes b) = absurd (a (omega arith))
      go (no a) (no b) = refl

  point_moved : (p : Site) → point_of (moved_leg k l) (moved_site k p) ≡ relabel (moved_site k) (point_of l p)
  point_moved p = λ i. record {
    a = distance_moved k p.position l.s i;
    c = distance_moved k p.position l.e i;
    order = rank_moved p i;
    site = moved_site k p;
  }

  points_moved : (s : List Site) → points (moved_leg k l) (map (moved_site k) s) ≡ map (relabel (moved_site k)) (points l s)
  points_moved [] = refl
  points_moved (p ∷ s) = λ i. point_moved p i ∷ points_moved s i

  -- THE SAME LIST from every corner
  pub moved_list : (s : List Site) → split_of (moved_leg k l) (map (moved_site k) s) ≡ map (moved_entry k) (split_of l s)
  unfolding split_of
  moved_list s =
      ap (λ (Q : List Point). entries_of (build Q)) (points_moved s)
      ∙ ap entries_of (build_relabelled (moved_site k) (points l s))
      ∙ entries_relabelled (moved_site k) (build (points l s))
