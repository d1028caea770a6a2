-- No denominator of a split list passes 2,304,000,000.
-- Assumes nothing.
use Rattle.limits.specs.Limits.{max_denominator}
use mathlib.Core.Path.{◌≡◌, ap, sym, subst, ◌∙◌}
use mathlib.Core.List.Memᴰ
use mathlib.Core.List.{List, [], ◌∷◌, Memᴰ}
use Prim.Native.Nat.{ℕ, zero, suc, ◌+◌, ◌*◌, ◌-◌, ◌≤◌, ◌<◌}
use native.Mathlib.Nat.{mul-le-mul_left, mul-lt-mul_of_pos_left}
use native.Mathlib.Decide.{dec_le, dec_lt}
use native.Mathlib.Omega.{arith}
use Rattle.grid.specs.declared.Fraction.{Fraction}
use Rattle.grid.specs.declared.Leg.{Leg}
use Rattle.grid.specs.declared.Site.{Site}
use Rattle.grid.specs.Fraction.{IsFraction, Below, Reduced}
use Rattle.grid.specs.Position.{LegOnGrid, distance}
use Rattle.grid.proofs.Order.{cancel_eq, Common, common, mid, mid_fraction}
use Rattle.split.specs.Hull.{weigh}
use Rattle.split.specs.SplitList.{Leads, Entry, end_of, Stretches, IsSplitList, Numbered, SitesOnGrid}
use Rattle.split.specs.Bounds.{Bounded}
use Rattle.split.proofs.Bounds.{on_grid_bounded}
use Rattle.split.proofs.Closed.{closed}
use Rattle.split.proofs.Ranks.{rank_number}
use Rattle.split.proofs.Unique.{end_fraction}
use Rattle.split.proofs.Ties.{tie_along}
use Rattle.split.proofs.Weights.{Weights, weights, weigh_le}

-- a start is below 1
start_of : (l : Leg) (s : List Site) (f : Entry) (es : List Entry) → Stretches l s es → Memᴰ f es → f.start.num < f.start.den
start_of l s f es h (Memᴰ.head {x = e} {xs = rest} q) = subst (λ (g : Entry). g.start.num < g.start.den) (sym q) h.0.below1
start_of l s f es h (Memᴰ.tail {x = e} {xs = rest} m) = start_of l s f rest h.1 m

pub start_below : (l : Leg) (s : List Site) (es : List Entry) → Stretches l s es → (f : Entry) → Memᴰ f es → f.start.num < f.start.den
start_below l s es h f m = start_of l s f es h m

le_times : (r b x : ℕ) → x ≡ r * b → 1 ≤ x → b ≤ x
le_times zero b x e p = absurd (omega arith)
le_times (suc r) b x e p = omega arith

-- two sites that tie at c, one nearer to the start
tie_bound : (m a1 c1 a2 c2 : ℕ) (c : Fraction) → c.den ≡ m + c.num → 1 ≤ m → 1 ≤ c.num → Reduced c
    → m * a1 + c.num * c1 ≡ m * a2 + c.num * c2 → a1 < a2 → c.den ≤ a2 + c1
tie_bound m a1 c1 a2 c2 c e pm pn red t lt = go (dec_le c1 c2)
  where
    fits : (n0 m0 : ℕ) → a2 ≡ a1 + n0 → c1 ≡ c2 + m0 → 1 ≤ n0 → c.den ≤ a2 + c1
    fits n0 m0 ea ec p0 =
        let x : m * a2 ≡ m * (a1 + n0) = ap (λ (y : ℕ). m * y) ea in
        let y : c.num * c1 ≡ c.num * (c2 + m0) = ap (λ (y : ℕ). c.num * y) ec in
        let z : n0 * c.den ≡ n0 * (m + c.num) = ap (λ (y : ℕ). n0 * y) e in
        let r : Common c.num c.den n0 (m0 + n0) = common (c.den + (m0 + n0)) c.num c.den n0 (m0 + n0) (omega arith) (omega arith) (omega arith) (omega arith) in
        bound r
      where
        bound : Common c.num c.den n0 (m0 + n0) → c.den ≤ a2 + c1
        bound r =
            let one : r.left ≡ 1 = red r.left r.top r.bottom r.a_is r.b_is in
            let d : c.den ≡ 1 * r.bottom = r.b_is ∙ ap (λ (k : ℕ). k * r.bottom) one in
            omega (arith, le_times r.right r.bottom (m0 + n0) r.d_is (omega arith))

    go : Dec (c1 ≤ c2) → c.den ≤ a2 + c1
    go (yes h) = absurd (omega (arith, mul-le-mul_left c.num h, mul-lt-mul_of_pos_left lt pm))
    go (no h) = fits (a2 - a1) (c1 - c2) (omega arith) (omega arith) (omega arith)

pos_of : (x y k : ℕ) → x < k * y → 1 ≤ k
pos_of x y zero h = absurd (omega arith)
pos_of x y (suc k) h = omega arith

rest_eq : (m n a1 a2 c1 c2 : ℕ) → a1 ≡ a2 → m * a1 + n * c1 ≡ m * a2 + n * c2 → 1 ≤ n → c1 ≡ c2
rest_eq m n a1 a2 c1 c2 e t p = cancel_eq c1 c2 n p (omega (arith, ap (λ (x : ℕ). m * x) e))

module _ (l : Leg) (s : List Site) (numbered : Numbered s) (onLeg : LegOnGrid l) (on_grid : SitesOnGrid s) where
  next : (e f : Entry) (fs : List Entry) → Stretches l s (e ∷ f ∷ fs) → f.start.den ≤ max_denominator
  unfolding weigh
  next e f fs h = go (dec_lt (A x) (A y)) (dec_lt (A y) (A x))
    where
      x : Site
      x = e.site

      y : Site
      y = f.site

      A : Site → ℕ
      A p = distance p.position l.s

      C : Site → ℕ
      C p = distance p.position l.e

      c : Fraction
      c = f.start

      fe : IsFraction e.start
      fe = end_fraction l s (e ∷ f ∷ fs) h

      fc : IsFraction c
      fc = end_fraction l s (f ∷ fs) h.1

      fz : IsFraction (end_of fs)
      fz = end_fraction l s fs h.1.1

      ec : Below e.start c
      ec = h.0.rises

      cz : Below c (end_of fs)
      cz = h.1.0.rises

      left : Leads l s (mid e.start c) x
      left = h.0.leads _ (mid_fraction _ _ fe fc) (omega (arith, ec)) (omega (arith, ec))

      right : Leads l s (mid c (end_of fs)) y
      right = h.1.0.leads _ (mid_fraction _ _ fc fz) (omega (arith, cz)) (omega (arith, cz))

      w : Weights c (c.den - c.num)
      w = weights c fc

      xy : weigh l (c.den - c.num) c.num x ≤ weigh l (c.den - c.num) c.num y
      xy = weigh_le l c _ w x y (closed l s e (f ∷ fs) h c fc (record { from_start = omega (arith, ec); to_end = omega arith }) y right.held)

      yx : weigh l (c.den - c.num) c.num y ≤ weigh l (c.den - c.num) c.num x
      yx = weigh_le l c _ w y x (closed l s f fs h.1 c fc (record { from_start = omega arith; to_end = omega (arith, cz) }) x left.held)

      below : c.num < c.den
      below = h.1.0.below1

      above : 1 ≤ c.num
      above = pos_of _ e.start.den c.num ec

      bounds : (p : Site) → Memᴰ p s → Bounded l p
      bounds p m = on_grid_bounded l p onLeg (on_grid p m)

      same : A x ≡ A y → C x ≡ C y → ⊥
      same a b =
          h.0.changes
          (rank_number l x y (numbered.small x left.held) (numbered.small y right.held)
          (omega (arith, left.least y right.held (tie_along l x y a b _ (mid_fraction _ _ fe fc)), right.least x left.held (tie_along l y x (sym a) (sym b) _ (mid_fraction _ _ fc fz)))))

      go : Dec (A x < A y) → Dec (A y < A x) → c.den ≤ max_denominator
      go (yes a) q =
          omega (
            arith,
            tie_bound (c.den - c.num) (A x) (C x) (A y) (C y) c (omega (arith, below)) (omega (arith, below)) above h.1.0.reduced (omega (arith, xy, yx)) a,
            (bounds x left.held).from_e,
            (bounds y right.held).from_s,
          )
      go (no a) (yes b) =
          omega (
            arith,
            tie_bound (c.den - c.num) (A y) (C y) (A x) (C x) c (omega (arith, below)) (omega (arith, below)) above h.1.0.reduced (omega (arith, xy, yx)) b,
            (bounds y right.held).from_e,
            (bounds x left.held).from_s,
          )
      go (no a) (no b) = absurd (same (omega arith) (rest_eq (c.den - c.num) c.num (A x) (A y) (C x) (C y) (omega arith) (omega (arith, xy, yx)) above))

  all : (f : Entry) (es : List Entry) → Stretches l s es → (e : Entry) → e.start.den ≤ max_denominator → Stretches l s (e ∷ es)
      → Memᴰ f (e ∷ es) → f.start.den ≤ max_denominator
  all f es k e b h (Memᴰ.head q) = rw q b
  all f [] k e b h (Memᴰ.tail m) = absurd (Memᴰ.not-nil m)
  all f (g ∷ gs) k e b h (Memᴰ.tail m) = all f gs k.1 g (next e g gs h) k m

  -- NO DENOMINATOR PASSES 2,304,000,000
  pub bounded : (es : List Entry) → IsSplitList l s es → (f : Entry) → Memᴰ f es → f.start.den ≤ max_denominator
  bounded [] h f m = absurd (Memᴰ.not-nil m)
  bounded (e ∷ es) h f m = all f es h.rules.1 e (rw h.opens (omega arith)) h.rules m
