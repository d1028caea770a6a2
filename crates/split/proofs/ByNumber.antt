-- What C-11 of document 02 changed: nothing but which of the sites that tie along the whole leg is named.
-- Assumes nothing.
use mathlib.Core.Path.{◌≡◌, refl, sym, ◌∙◌}
use mathlib.Core.List.{List, [], ◌∷◌, Memᴰ}
use Prim.Native.Nat.{◌≤◌}
use native.Mathlib.Decide.{dec_le}
use native.Mathlib.Omega.{arith}
use Rattle.grid.specs.declared.Fraction.{Fraction}
use Rattle.grid.specs.declared.Site.{Site}
use Rattle.grid.specs.declared.Leg.{Leg}
use Rattle.grid.specs.Position.{distance}
use Rattle.split.specs.SplitList.{Entry}
use Rattle.split.specs.Hull.{Point, point_of, points, RightBelow, In, Under, Convex}
use Rattle.split.specs.SplitOf.{Hides, hides?, under?, push, insert, build, entries_after, entries_along, onto, split_of}
use Rattle.split.specs.ByNumber.{number_points, split_by_number, SameStretch, SameStretches, NoTie}
use Rattle.split.specs.Choice.{pick}
use Rattle.split.proofs.HullLaws.{under_step}
use Rattle.split.proofs.Ties.{tie_along}
use Rattle.split.proofs.Insertion.{push_hides, push_stands, push_drops, push_empty, same_place, convex_right, inserted, build_hull}

module _ (l : Leg) (s : List Site) where
  -- a point is that of a site
  record Genuine (u : Point) : Type 0 where
    held : Memᴰ u.site s
    a_is : u.a ≡ distance u.site.position l.s
    c_is : u.c ≡ distance u.site.position l.e

  -- two points at one place
  record Twin (u v : Point) : Type 0 where
    a : u.a ≡ v.a
    c : u.c ≡ v.c
    left : Genuine u
    right : Genuine v

  abbrev Twins : List Point → List Point → Type 0
  Twins [] [] = Unit {0}
  Twins [] (v ∷ r) = ⊥
  Twins (u ∷ h) [] = ⊥
  Twins (u ∷ h) (v ∷ r) = Twin u v × Twins h r

  flip : {u v : Point} → Twin u v → Twin v u
  flip t = record { a = sym t.a; c = sym t.c; left = t.right; right = t.left }

  flips : (h r : List Point) → Twins h r → Twins r h
  flips [] (v ∷ r) t = elim t [ ]
  flips (u ∷ h) [] t = elim t [ ]
  flips [] [] t = tt
  flips (u ∷ h) (v ∷ r) t = (flip t.0, flips h r t.1)

  same : {u v : Point} → Twin u v → Twin u u
  same t = record { a = refl; c = refl; left = t.left; right = t.left }

  step_twin : {u v x y : Point} → Twin u v → Twin x y → RightBelow u x → RightBelow v y
  step_twin t q k = record { right = omega (arith, t.a, q.a, k.right); down = omega (arith, t.c, q.c, k.down) }

  under_twin : (x y : Point) (h r : List Point) → Twin x y → Twins h r → Under x h → Under y r
  under_twin x y [] (v ∷ _) q t k = elim t [ ]
  under_twin x y (u ∷ []) [] q t k = elim t [ ]
  under_twin x y (u ∷ (w ∷ h)) [] q t k = elim t [ ]
  under_twin x y [] [] q t k = tt
  under_twin x y (u ∷ []) (v ∷ []) q t k = step_twin t.0 q k
  under_twin x y (u ∷ []) (v ∷ z ∷ r) q t k = absurd t.1
  under_twin x y (u ∷ w ∷ h) (v ∷ []) q t k = absurd t.1
  under_twin x y (u ∷ w ∷ h) (v ∷ z ∷ r) q t k =
      (step_twin t.0 q k.0, rw (t.0.a, t.0.c, t.1.0.a, t.1.0.c, q.a, q.c) at k.1)

  convex_twin : (h r : List Point) → Twins h r → Convex h → Convex r
  convex_twin [] (v ∷ r) t k = elim t [ ]
  convex_twin (u ∷ h) [] t k = elim t [ ]
  convex_twin [] [] t k = tt
  convex_twin (u ∷ h) (v ∷ r) t k = (under_twin u v h r t.0 t.1 k.0, convex_twin h r t.1 k.1)

  -- a point at the place of the one that stood there takes it
  replaces : (x u : Point) (h : List Point) → u.a ≡ x.a → u.c ≡ x.c → Under u h → push x h ≡ x ∷ h
  replaces x u [] a c k = push_empty x
  replaces x u (w ∷ h) a c k = push_stands x w h (λ g. omega (arith, (under_step h k).down, g.0)) (under_at h k)
    where
      under_at : (h : List Point) → Under u (w ∷ h) → Under x (w ∷ h)
      under_at [] k = record { right = omega (arith, k.right); down = omega (arith, k.down) }
      under_at (z ∷ h) k = (record { right = omega (arith, k.0.right); down = omega (arith, k.0.down) }, rw (a, c) at k.1)

  -- y is at v's place, where u stands too: whichever stays
  module _ (x y u v : Point) (h r : List Point) (q : Twin x y) (t : Twins (u ∷ h) (v ∷ r)) (cv : Convex (v ∷ r)) (near : u.a ≤ x.a) where
    one_hidden : Hides u x → ¬ Hides v y → Twins (push x (u ∷ h)) (push y (v ∷ r))
    one_hidden k n =
        let e = same_place v y n (omega (arith, k.0, t.0.c, q.c)) in
        let a : v.a ≡ y.a = omega (arith, t.0.a, q.a, e.1) in
        let c : v.c ≡ y.c = omega (arith, k.0, t.0.c, q.c, e.0) in
        let f : push y (v ∷ r) ≡ y ∷ r = push_drops y v r n (λ w. omega (arith, (under_step r w).right)) ∙ replaces y v r a c cv.0 in
        rw (push_hides x u h k, f) (record { a = t.0.a ∙ a; c = t.0.c ∙ c; left = t.0.left; right = q.right }, t.1)

  push_twins : (x y : Point) (h r : List Point) → Twin x y → Twins h r → Convex h → ((v : Point) → In v h → v.a ≤ x.a) → Twins (push x h) (push y r)
  push_twins x y [] (v ∷ r) q t cv near = elim t [ ]
  push_twins x y (u ∷ h) [] q t cv near = elim t [ ]
  push_twins x y [] [] q t cv near = rw (push_empty x, push_empty y) (q, tt)
  push_twins x y (u ∷ h) (v ∷ r) q t cv near =
      go (hides? u x) (hides? v y) (under? x (u ∷ h)) (push_twins x y h r q t.1 cv.1 (λ z i. near z (Memᴰ.tail i)))
    where
      cr : Convex (v ∷ r)
      cr = convex_twin (u ∷ h) (v ∷ r) t cv

      left : u.a ≤ x.a
      left = near u (Memᴰ.head refl)

      go : Dec (Hides u x) → Dec (Hides v y) → Dec (Under x (u ∷ h)) → Twins (push x h) (push y r) → Twins (push x (u ∷ h)) (push y (v ∷ r))
      go (yes k) (yes m) d z = rw (push_hides x u h k, push_hides y v r m) t
      go (yes k) (no m) d z = one_hidden x y u v h r q t cr left k m
      go (no k) (yes m) d z =
          flips (push y (v ∷ r)) (push x (u ∷ h))
          (one_hidden y x v u r h (flip q) (flips (u ∷ h) (v ∷ r) t) cv (omega (arith, left, q.a, t.0.a)) m k)
      go (no k) (no m) (yes w) z =
          rw (push_stands x u h k w, push_stands y v r m (under_twin x y (u ∷ h) (v ∷ r) q t w)) (q, t)
      go (no k) (no m) (no w) z =
          rw (push_drops x u h k w, push_drops y v r m (λ i. w (under_twin y x (v ∷ r) (u ∷ h) (flip q) (flips (u ∷ h) (v ∷ r) t) i))) z

  insert_twins : (p q : Point) (h r : List Point) → Twin p q → Twins h r → Convex h → Twins (insert p h) (insert q r)
  unfolding insert
  insert_twins p q [] (v ∷ r) e t cv = elim t [ ]
  insert_twins p q (u ∷ h) [] e t cv = elim t [ ]
  insert_twins p q [] [] e t cv = (e, tt)
  insert_twins p q (u ∷ h) (v ∷ r) e t cv = go (dec_le u.a p.a) (dec_le v.a q.a) (insert_twins p q h r e t.1 cv.1)
    where
      bound : ¬ (u.a ≤ p.a) → {w : Point} → In w (p ∷ h) → w.a ≤ u.a
      bound gt (Memᴰ.head i) = rw i (omega arith)
      bound gt {w} (Memᴰ.tail i) = convex_right u h cv w (Memᴰ.tail i)

      go : (d : Dec (u.a ≤ p.a)) (f : Dec (v.a ≤ q.a)) → Twins (insert p h) (insert q r)
          → Twins (pick d (push p (u ∷ h)) (push u (insert p h))) (pick f (push q (v ∷ r)) (push v (insert q r)))
      go (yes k) (yes m) z = push_twins p q (u ∷ h) (v ∷ r) e t cv (λ w i. omega (arith, convex_right u h cv w i))
      go (yes k) (no m) z = absurd (m (omega (arith, e.a, t.0.a)))
      go (no k) (yes m) z = absurd (k (omega (arith, e.a, t.0.a)))
      go (no k) (no m) z =
          push_twins u v (insert p h) (insert q r) t.0 z
          (inserted p h cv.1).convex (λ w i. bound k ((inserted p h cv.1).sub w i))

-- each site as a point, by either rule
module _ (l : Leg) where
  build_twins : (s u : List Site) → ((p : Site) → Memᴰ p u → Memᴰ p s) → Twins l s (build (points l u)) (build (number_points l u))
  unfolding build
  build_twins s [] sub = tt
  build_twins s (p ∷ u) sub =
      insert_twins l s _ _ (build (points l u)) (build (number_points l u))
      (record { a = refl; c = refl; left = here; right = record { held = here.held; a_is = refl; c_is = refl } })
      (build_twins s u (λ q i. sub q (Memᴰ.tail i)))
      (build_hull (points l u)).convex
    where
      here : Genuine l s (point_of l p)
      here = record { held = sub p (Memᴰ.head refl); a_is = refl; c_is = refl }

  onto_twins : (s : List Site) (h r j k : List Point) → Twins l s h r → Twins l s j k → Twins l s (onto h j) (onto r k)
  onto_twins s [] (v ∷ r) j k t e = elim t [ ]
  onto_twins s (u ∷ h) [] j k t e = elim t [ ]
  onto_twins s [] [] j k t e = e
  onto_twins s (u ∷ h) (v ∷ r) j k t e = onto_twins s h r (u ∷ j) (v ∷ k) t.1 (t.0, e)

  -- two points at one place name sites that tie
  same_stretch : (s : List Site) (u v : Point) → Twin l s u v → (f g : Fraction) → f ≡ g
      → SameStretch l s (record { site = u.site; start = f }) (record { site = v.site; start = g })
  same_stretch s u v t f g e =
      record {
        start = e;
        held = (t.left.held, t.right.held);
        tie = tie_along l u.site v.site (sym t.left.a_is ∙ t.a ∙ t.right.a_is) (sym t.left.c_is ∙ t.c ∙ t.right.c_is);
      }

  after_twins : (s : List Site) (u v : Point) (h r : List Point) → Twin l s u v → Twins l s h r → SameStretches l s (entries_after u h) (entries_after v r)
  after_twins s u v [] (z ∷ r) t e = elim e [ ]
  after_twins s u v (w ∷ h) [] t e = elim e [ ]
  after_twins s u v [] [] t e = tt
  after_twins s u v (w ∷ h) (z ∷ r) t e =
      (same_stretch s w z e.0 _ _ (rw (t.a, t.c, e.0.a, e.0.c) refl), after_twins s w z h r e.0 e.1)

  along_twins : (s : List Site) (h r : List Point) → Twins l s h r → SameStretches l s (entries_along h) (entries_along r)
  along_twins s [] (v ∷ r) t = elim t [ ]
  along_twins s (u ∷ h) [] t = elim t [ ]
  along_twins s [] [] t = tt
  along_twins s (u ∷ h) (v ∷ r) t = (same_stretch s u v t.0 _ _ refl, after_twins s u v h r t.0 t.1)

  -- C-11 CHANGES NOTHING but which of the sites that tie along the whole leg is named
  pub ties_alone : (s : List Site) → SameStretches l s (split_of l s) (split_by_number l s)
  unfolding split_of split_by_number
  ties_alone s =
      let h = build (points l s) in
      let r = build (number_points l s) in
      along_twins s (onto h []) (onto r []) (onto_twins s h r [] [] (build_twins s s (λ p i. i)) tt)

  same_entries : (s : List Site) → NoTie l s → (es fs : List Entry) → SameStretches l s es fs → es ≡ fs
  same_entries s n [] (f ∷ fs) t = elim t [ ]
  same_entries s n (e ∷ es) [] t = elim t [ ]
  same_entries s n [] [] t = refl
  same_entries s n (e ∷ es) (f ∷ fs) t =
      let site = n e.site f.site t.0.held.0 t.0.held.1 t.0.tie in
      λ i. record { site = site i; start = t.0.start i } ∷ same_entries s n es fs t.1 i

  -- AND NOTHING AT ALL where no two sites tie
  pub no_tie_same : (s : List Site) → NoTie l s → split_of l s ≡ split_by_number l s
  no_tie_same s n = same_entries s n (split_of l s) (split_by_number l s) (ties_alone s)
