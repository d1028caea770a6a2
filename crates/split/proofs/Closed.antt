-- Each entry's site is nearest at every fraction that the entry covers, both ends included.
-- Assumes nothing.
use mathlib.Core.Path.{subst, ◌≡◌, refl, ap}
use mathlib.Core.Logic.{◌≢◌}
use mathlib.Core.List.{List, ◌∷◌, Memᴰ}
use Prim.Native.Nat.{ℕ, ◌+◌, ◌*◌, ◌-◌, ◌≤◌, ◌<◌}
use native.Mathlib.Nat.{mul-lt-mul_of_pos_right, mul-le-mul_left}
use native.Mathlib.Decide.{dec_le}
use native.Mathlib.Omega.{arith}
use Rattle.grid.specs.declared.Fraction.{Fraction}
use Rattle.grid.specs.declared.Leg.{Leg}
use Rattle.grid.specs.declared.Site.{Site}
use Rattle.grid.specs.Fraction.{IsFraction, Below, NotAbove}
use Rattle.grid.proofs.Order.{mid, mid_fraction}
use Rattle.split.specs.Hull.{weigh}
use Rattle.split.specs.SplitList.{CoversAt, NearestAt, distance_at, Leads, Entry, end_of, Stretches}
use Rattle.split.proofs.Unique.{end_fraction}
use Rattle.split.proofs.Weights.{Weights, weights, weigh_le, far_le, weigh_mix}

-- no further than q at every fraction near t, then no further at t
limit : (l : Leg) (m n x y : ℕ) (p q : Site)
    → ((k : ℕ) → weigh l (k * m + 1 * x) (k * n + 1 * y) p ≤ weigh l (k * m + 1 * x) (k * n + 1 * y) q)
    → weigh l m n p ≤ weigh l m n q
limit l m n x y p q h = go (dec_le (weigh l m n p) (weigh l m n q))
  where
    k : ℕ
    k = weigh l x y q + 1

    far : weigh l m n q + 1 ≤ weigh l m n p → (j : ℕ) → j ≡ weigh l x y q + 1 → ⊥
    far g j e =
        omega
        (arith, h j, weigh_mix l j m n 1 x y p, weigh_mix l j m n 1 x y q, mul-le-mul_left j g)

    go : Dec (weigh l m n p ≤ weigh l m n q) → weigh l m n p ≤ weigh l m n q
    go (yes g) = g
    go (no g) = absurd (far (omega arith) (weigh l x y q + 1) refl)

-- near t: k times t and once r
near : ℕ → Fraction → Fraction → Fraction
near k t r = record { num = k * t.num + 1 * r.num; den = k * t.den + 1 * r.den }

near_weights : (k m x : ℕ) (t r : Fraction) → Weights t m → Weights r x → Weights (near k t r) (k * m + 1 * x)
unfolding near
near_weights k m x t r wt wr = omega (arith, ap (λ (y : ℕ). k * y) wt.parts)

module _ (l : Leg) (s : List Site) (e : Entry) (es : List Entry) (h : Stretches l s (e ∷ es)) where
  near_leads : (t : Fraction) → IsFraction t → NotAbove e.start t → NotAbove t (end_of es) → (k : ℕ)
      → Leads l s (near k t (mid e.start (end_of es))) e.site
  unfolding near
  near_leads t f a b k =
      let rises : Below e.start (end_of es) = h.0.rises in
      let fs : IsFraction e.start = end_fraction l s (e ∷ es) h in
      let fe : IsFraction (end_of es) = end_fraction l s es h.1 in
      h.0.leads _
      (omega (arith, mul-le-mul_left k f.within))
      (omega (arith, mul-le-mul_left k a))
      (omega (arith, mul-le-mul_left k b))

  at_ends : (t : Fraction) → IsFraction t → NotAbove e.start t → NotAbove t (end_of es) → (q : Site) → Memᴰ q s → distance_at l t e.site ≤ distance_at l t q
  unfolding near
  at_ends t f a b q mem =
      far_le l t (t.den - t.num) (weights t f) e.site q
      (limit l (t.den - t.num) t.num (r.den - r.num) r.num e.site q close)
    where
      r : Fraction
      r = mid e.start (end_of es)

      fr : IsFraction r
      fr = mid_fraction e.start (end_of es) (end_fraction l s (e ∷ es) h) (end_fraction l s es h.1)

      close : (k : ℕ)
          → weigh l (k * (t.den - t.num) + 1 * (r.den - r.num)) (k * t.num + 1 * r.num) e.site
          ≤ weigh l (k * (t.den - t.num) + 1 * (r.den - r.num)) (k * t.num + 1 * r.num) q
      close k =
          weigh_le l (near k t r) (k * (t.den - t.num) + 1 * (r.den - r.num))
          (near_weights k (t.den - t.num) (r.den - r.num) t r (weights t f) (weights r fr)) e.site q
          ((near_leads t f a b k).nearest q mem)

-- NEAREST ON THE CLOSED STRETCH: at every fraction that an entry covers, both ends included, its site is nearest
pub closed : (l : Leg) (s : List Site) (e : Entry) (es : List Entry) → Stretches l s (e ∷ es) → (t : Fraction) → IsFraction t → CoversAt e es t
    → NearestAt l s t e.site
closed l s e es h t f c = at_ends l s e es h t f c.from_start c.to_end

-- one fraction, written in two ways
abbrev pub SameFraction : Fraction → Fraction → Type 0
SameFraction t u = t.num * u.den ≡ u.num * t.den

-- A SITE THAT IS NEAREST AT A SINGLE FRACTION ONLY IS NOT LISTED
pub single_unlisted : (l : Leg) (s : List Site) (p : Site) (u : Fraction) → 1 ≤ u.den
    → ((t : Fraction) → IsFraction t → NearestAt l s t p → SameFraction t u)
    → (e : Entry) (es : List Entry) → Stretches l s (e ∷ es) → e.site ≢ p
single_unlisted l s p u pos only e es h z =
    let fs : IsFraction e.start = end_fraction l s (e ∷ es) h in
    let fe : IsFraction (end_of es) = end_fraction l s es h.1 in
    let r : Below e.start (end_of es) = h.0.rises in
    let a : NearestAt l s e.start p = subst (λ (x : Site). NearestAt l s e.start x) z (closed l s e es h e.start fs (record { from_start = omega arith; to_end = omega arith })) in
    let b : NearestAt l s (end_of es) p = subst (λ (x : Site). NearestAt l s (end_of es) x) z (closed l s e es h (end_of es) fe (record { from_start = omega arith; to_end = omega arith })) in
    apart e.start (end_of es) (only e.start fs a) (only (end_of es) fe b) r
  where
    apart : (x y : Fraction) → SameFraction x u → SameFraction y u → Below x y → ⊥
    apart x y ex ey k =
        let le : x.num * y.den * u.den < y.num * x.den * u.den = mul-lt-mul_of_pos_right k pos in
        omega (arith, ap (λ (z : ℕ). z * y.den) ex, ap (λ (z : ℕ). z * x.den) ey)
