-- The computed list satisfies the rules, and no other does.
-- Assumes nothing.
use mathlib.Core.Path.{◌≡◌, refl, ap, sym, subst, ◌∙◌}
use mathlib.Core.Logic.{inl, inr}
use mathlib.Core.List.Memᴰ
use mathlib.Core.List.{List, [], ◌∷◌, ◌++◌, append-nil, Memᴰ}
use Prim.Native.Nat.{ℕ, zero, suc, ◌+◌, ◌*◌, ◌-◌, ◌≤◌, ◌<◌}
use native.Mathlib.Nat.{mul-le-mul_left, mul-lt-mul_of_pos_left, lt_of_mul-lt-mul_left}
use native.Mathlib.Omega.{arith}
use Rattle.grid.specs.declared.Fraction.{Fraction}
use Rattle.grid.specs.declared.Leg.{Leg}
use Rattle.grid.specs.declared.Site.{Site}
use Rattle.grid.specs.Fraction.{IsFraction, Below, Reduced, IsLowest, zero_fraction}
use Rattle.grid.proofs.LowestTerms.{lowest_is}
use Rattle.grid.proofs.Factors.{factor_one}
use Rattle.split.specs.Hull.{Point, point_of, points, weigh, weigh_at, rise, fall, RightBelow, In, Covers, Convex, IsHull}
use Rattle.split.specs.SplitList.{rank, Leads, Entry, end_of, Changes, Stretch, Stretches, IsSplitList, Numbered, SameSites}
use Rattle.split.specs.SplitOf.{build, changeover, entries_after, entries_along, onto, entries_of, split_of}
use Rattle.split.proofs.Best.{Precedes, Best, convex_prefix, onto_keeps, Past, Short, stretch_best}
use Rattle.split.proofs.HullLaws.{under_step}
use Rattle.split.proofs.Insertion.{build_hull}
use Rattle.split.proofs.Unique.{only_one}
use Rattle.split.proofs.Weights.{at_far, at_eq}

-- f is x / (x + y)
pub record Stands (f : Fraction) (x y : ℕ) : Type 0 where
  pub by : ℕ
  pub positive : 1 ≤ by
  pub num_is : x ≡ by * f.num
  pub den_is : x + y ≡ by * f.den

stands_frac : (t : Fraction) → IsFraction t → Stands t t.num (t.den - t.num)
stands_frac t h = record { by = 1; positive = omega arith; num_is = omega arith; den_is = omega arith }

module _ {f g : Fraction} {x y z w : ℕ} (p : Stands f x y) (q : Stands g z w) where
  xz : x * (z + w) ≡ (p.by * f.num) * (q.by * g.den)
  xz = λ i. p.num_is i * q.den_is i

  zx : z * (x + y) ≡ (q.by * g.num) * (p.by * f.den)
  zx = λ i. q.num_is i * p.den_is i

  before_of : x * w < z * y → Below f g
  before_of h = lt_of_mul-lt-mul_left (p.by * q.by) (omega (arith, xz, zx))

  of_before : Below f g → x * w < z * y
  of_before h =
      let k : 0 < p.by * q.by = omega (arith, mul-le-mul_left p.by q.positive, p.positive) in
      omega (arith, xz, zx, mul-lt-mul_of_pos_left {k = p.by * q.by} h k)

-- the start of v's stretch, and how it stands
abbrev start_of : Point → List Point → Fraction
start_of v [] = zero_fraction
start_of v (u ∷ l) = changeover u v

abbrev rise_on : Point → List Point → ℕ
rise_on v [] = 0
rise_on v (u ∷ l) = rise u v

abbrev fall_on : Point → List Point → ℕ
fall_on v [] = 1
fall_on v (u ∷ l) = fall u v

abbrev rise_to : Point → List Point → ℕ
rise_to v [] = 1
rise_to v (w ∷ r) = rise v w

abbrev fall_to : Point → List Point → ℕ
fall_to v [] = 0
fall_to v (w ∷ r) = fall v w

changeover_is : (u v : Point) → RightBelow u v → IsLowest (rise u v) (rise u v + fall u v) (changeover u v)
changeover_is u v s = lowest_is (rise u v) (rise u v + fall u v) (omega (arith, s.right))

cross_stands : (u v : Point) → RightBelow u v → Stands (changeover u v) (rise u v) (fall u v)
cross_stands u v s =
    let r = changeover_is u v s in
    record { by = r.by; positive = r.positive; num_is = r.num_is; den_is = r.den_is }

start_stands : (v : Point) (l : List Point) → Convex (v ∷ l) → Stands (start_of v l) (rise_on v l) (fall_on v l)
start_stands v [] h = record { by = 1; positive = omega arith; num_is = omega arith; den_is = omega arith }
start_stands v (u ∷ l) h = cross_stands u v (under_step l h.0)

end_stands : (r : List Point) (v : Point) (l : List Point) → Convex (onto r (v ∷ l)) → Stands (end_of (entries_after v r)) (rise_to v r) (fall_to v r)
end_stands [] v l h = record { by = 1; positive = omega arith; num_is = omega arith; den_is = omega arith }
end_stands (w ∷ r) v l h = cross_stands v w (under_step l (convex_prefix r (w ∷ v ∷ l) h).0)

start_reduced : (v : Point) (l : List Point) → Convex (v ∷ l) → Reduced (start_of v l)
start_reduced v [] h = λ k a b ea eb. factor_one k b eb
start_reduced v (u ∷ l) h = (changeover_is u v (under_step l h.0)).reduced

start_falls : (v : Point) (l : List Point) → Convex (v ∷ l) → 0 < fall_on v l
start_falls v [] h = omega arith
start_falls v (u ∷ l) h = omega (arith, under_step l h.0)

rises : (r : List Point) (v : Point) (l : List Point) → Convex (onto r (v ∷ l)) → rise_on v l * fall_to v r < rise_to v r * fall_on v l
rises [] v l h = omega (arith, start_falls v l h)
rises (w ∷ r) v [] h = omega (arith, (convex_prefix r (w ∷ v ∷ []) h).0.right)
rises (w ∷ r) v (u ∷ l) h = (convex_prefix r (w ∷ v ∷ u ∷ l) h).0.1

past : (m n : ℕ) (v : Point) (l : List Point) → rise_on v l * m < n * fall_on v l → Past m n v l
past m n v [] h = tt
past m n v (u ∷ l) h = omega arith

short : (m n : ℕ) (v : Point) (r : List Point) → n * fall_to v r < rise_to v r * m → Short m n v r
short m n v [] h = tt
short m n v (w ∷ r) h = omega arith

positive_rise : (r : List Point) (v : Point) (k : List Point) → Convex (onto r (v ∷ k)) → 0 < rise_on v k + rise_to v r
positive_rise [] v k h = omega arith
positive_rise (w ∷ r) v k h = omega (arith, (under_step k (convex_prefix r (w ∷ v ∷ k) h).0).right)

-- of the points at its place, a vertex has the least order
pub vertex_first : {Q : List Point} (r : List Point) (v : Point) (k : List Point) → IsHull Q (onto r (v ∷ k))
    → (q : Point) → In q Q → v.a ≡ q.a → v.c ≡ q.c → v.order ≤ q.order
vertex_first {Q} r v k h q i a c = go (b.first q i)
  where
    m : ℕ
    m = fall_on v k + fall_to v r

    n : ℕ
    n = rise_on v k + rise_to v r

    cv : Convex (v ∷ k)
    cv = convex_prefix r (v ∷ k) h.convex

    b : Best m n v Q
    b = stretch_best m n (omega (arith, start_falls v k cv)) (positive_rise r v k h.convex) r v k h
        (short m n v r (omega (arith, rises r v k h.convex)))
        (past m n v k (omega (arith, rises r v k h.convex)))

    go : Precedes m n v q → v.order ≤ q.order
    go (inl l) = absurd (omega (arith, l, ap (λ (x : ℕ). m * x) a, ap (λ (x : ℕ). n * x) c))
    go (inr e) = e.1

positive_left : (a b c d : ℕ) → a * b < c * d → 0 < c
positive_left a b zero d h = absurd (omega arith)
positive_left a b (suc c) d h = omega arith

-- members of the points
pub of_points : (l : Leg) (s : List Site) (v : Point) → In v (points l s) → Memᴰ v.site s × (v ≡ point_of l v.site)
of_points l [] v x' = elim x' [ ]
of_points l (p ∷ s) v (Memᴰ.head e) = (Memᴰ.head (ap (λ (x : Point). x.site) e), e ∙ ap (point_of l) (sym (ap (λ (x : Point). x.site) e)))
of_points l (p ∷ s) v (Memᴰ.tail i) = let (m, e) = of_points l s v i in (Memᴰ.tail m, e)

pub to_points : (l : Leg) (s : List Site) (p : Site) → Memᴰ p s → In (point_of l p) (points l s)
to_points l [] p x' = elim x' [ ]
to_points l (q ∷ s) p (Memᴰ.head e) = Memᴰ.head (ap (point_of l) e)
to_points l (q ∷ s) p (Memᴰ.tail i) = Memᴰ.tail (to_points l s p i)

module _ (l : Leg) (s : List Site) (t : Fraction) (f : IsFraction t) where
  far : (p q : Site) → Precedes (t.den - t.num) t.num (point_of l p) (point_of l q) → weigh_at l t p ≤ weigh_at l t q
  unfolding weigh_at weigh
  far p q (inl h) = omega arith
  far p q (inr h) = omega (arith, h.0)

  tie : (p q : Site) → Precedes (t.den - t.num) t.num (point_of l p) (point_of l q) → weigh_at l t p ≡ weigh_at l t q → rank l p ≤ rank l q
  unfolding weigh_at weigh
  tie p q (inl h) e = absurd (omega arith)
  tie p q (inr h) e = h.1

  leads_site : (p : Site) → Best (t.den - t.num) t.num (point_of l p) (points l s) → Leads l s t p
  leads_site p b =
      record {
        held = (of_points l s (point_of l p) b.member).0;
        nearest = λ q i. at_far l t f p q (far p q (b.first (point_of l q) (to_points l s q i)));
        least = λ q i e. tie p q (b.first (point_of l q) (to_points l s q i)) (at_eq l t f p q e);
      }

  leads : (v : Point) → Best (t.den - t.num) t.num v (points l s) → Leads l s t v.site
  leads v b = leads_site v.site (subst (λ (x : Point). Best (t.den - t.num) t.num x (points l s)) (of_points l s v b.member).1 b)

module _ (l : Leg) (s : List Site) (numbered : Numbered s) where
  -- two points of one number are one
  one_point : (u v : Point) → In u (points l s) → In v (points l s) → u.site.number ≡ v.site.number → u ≡ v
  one_point u v i j e =
      let (m, eu) = of_points l s u i in
      let (n, ev) = of_points l s v j in
      eu ∙ ap (point_of l) (numbered.one u.site v.site m n e) ∙ sym ev

  changes : (r : List Point) (v : Point) (k : List Point) (st : Fraction) → IsHull (points l s) (onto r (v ∷ k)) → Changes (record { site = v.site; start = st }) (entries_after v r)
  changes [] v k st h = tt
  changes (w ∷ r) v k st h = λ e.
      let iw = h.sub w (onto_keeps r (w ∷ v ∷ k) w (Memᴰ.head refl)) in
      let iv = h.sub v (onto_keeps r (w ∷ v ∷ k) v (Memᴰ.tail (Memᴰ.head refl))) in
      let g = under_step k (convex_prefix r (w ∷ v ∷ k) h.convex).0 in
      omega (arith, g.right, ap (λ (x : Point). x.a) (one_point v w iv iw e))

  stretch : (r : List Point) (v : Point) (k : List Point) → IsHull (points l s) (onto r (v ∷ k))
      → Stretch l s (record { site = v.site; start = start_of v k }) (entries_after v r)
  stretch r v k h =
      record {
        below1 = lt_of_mul-lt-mul_left a.by (omega (arith, a.num_is, a.den_is, start_falls v k cv));
        reduced = start_reduced v k cv;
        rises = before_of a b (rises r v k h.convex);
        leads = λ t f p q. led t f (of_before a (stands_frac t f) p) (of_before (stands_frac t f) b q);
        changes = changes r v k (start_of v k) h;
      }
    where
      cv : Convex (v ∷ k)
      cv = convex_prefix r (v ∷ k) h.convex

      a : Stands (start_of v k) (rise_on v k) (fall_on v k)
      a = start_stands v k cv

      b : Stands (end_of (entries_after v r)) (rise_to v r) (fall_to v r)
      b = end_stands r v k h.convex

      led : (t : Fraction) → IsFraction t → rise_on v k * (t.den - t.num) < t.num * fall_on v k → t.num * fall_to v r < rise_to v r * (t.den - t.num)
          → Leads l s t v.site
      led t f p q =
          leads l s t f v
          (stretch_best (t.den - t.num) t.num
          (positive_left t.num (fall_to v r) (t.den - t.num) (rise_to v r) (omega arith))
          (positive_left (rise_on v k) (t.den - t.num) t.num (fall_on v k) p)
          r v k h (short (t.den - t.num) t.num v r q) (past (t.den - t.num) t.num v k p))

  stretches : (r : List Point) (v : Point) (k : List Point) → IsHull (points l s) (onto r (v ∷ k))
      → Stretches l s (record { site = v.site; start = start_of v k } ∷ entries_after v r)
  stretches [] v k h = (stretch [] v k h, tt)
  stretches (w ∷ r) v k h = (stretch (w ∷ r) v k h, stretches r w (v ∷ k) h)

  none : (s' : List Site) → Covers [] (points l s') → s' ≡ []
  none [] c = refl
  none (p ∷ s') c = absurd (Memᴰ.not-nil (c 1 1 (omega arith) (omega arith) (point_of l p) (Memᴰ.head refl)).1)

  rising_list : (r : List Point) → IsHull (points l s) (onto r []) → IsSplitList l s (entries_along r)
  rising_list [] h = record { opens = none s h.covers; rules = tt }
  rising_list (v ∷ r) h = record { opens = refl; rules = stretches r v [] h }

pub onto_onto : (l r s : List Point) → onto (onto l r) s ≡ onto r (l ++ s)
onto_onto [] r s = refl
onto_onto (w ∷ l) r s = onto_onto l (w ∷ r) s

-- A hull list gives a split list.
pub hull_is : (l : Leg) (s : List Site) → Numbered s → (h : List Point) → IsHull (points l s) h → IsSplitList l s (entries_of h)
hull_is l s n h k = rising_list l s n (onto h []) (rw (onto_onto h [] [], append-nil h) k)

-- THE COMPUTED LIST IS THE SPLIT LIST
pub split_is : (l : Leg) (s : List Site) → Numbered s → IsSplitList l s (split_of l s)
unfolding split_of
split_is l s n = hull_is l s n (build (points l s)) (build_hull (points l s))

-- AND NO OTHER IS
pub split_only : (l : Leg) (s u : List Site) → Numbered s → SameSites s u → (es : List Entry) → IsSplitList l u es → es ≡ split_of l s
split_only l s u n same es h = sym (only_one l s u n same (split_of l s) es (split_is l s n) h)
