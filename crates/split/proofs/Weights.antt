-- Which of two sites is nearer at a fraction: the one for which m·A + n·C is less. And what is weighed at a fraction between two others.
-- Assumes nothing.
use mathlib.Core.Path.{◌≡◌, ap, sym, subst, ◌∙◌}
use Prim.Native.Nat.{ℕ, ◌+◌, ◌*◌, ◌-◌, ◌≤◌, ◌<◌}
use native.Mathlib.Nat.{mul-le-mul_left}
use native.Mathlib.Decide.{dec_lt}
use native.Mathlib.Omega.{arith}
use Rattle.grid.specs.declared.Fraction.{Fraction}
use Rattle.grid.specs.declared.Leg.{Leg}
use Rattle.grid.specs.declared.Site.{Site}
use Rattle.grid.specs.Fraction.{IsFraction, Below, NotAbove}
use Rattle.grid.specs.Position.{distance}
use Rattle.grid.proofs.Order.{cancel_le}
use Rattle.split.specs.Hull.{weigh, weigh_at}
use Rattle.split.specs.SplitList.{distance_at}
use Rattle.split.proofs.Stewart.{stewart}

-- the weights of t: its denominator is m and its numerator together
pub record Weights (t : Fraction) (m : ℕ) : Type 0 where
  pub positive : 1 ≤ t.den
  pub parts : t.den ≡ m + t.num

pub weights : (t : Fraction) → IsFraction t → Weights t (t.den - t.num)
weights t h = omega arith

module _ (l : Leg) (t : Fraction) (m : ℕ) (w : Weights t m) where
  stewart_at : (p : Site) → distance_at l t p + m * t.num * distance l.s l.e ≡ t.den * weigh l m t.num p
  stewart_at p =
      let e : ◌≡◌ {A = Fraction} (record { num = t.num; den = m + t.num }) t = λ i. record { num = t.num; den = sym w.parts i } in
      subst (λ (u : Fraction). distance_at l u p + m * t.num * distance l.s l.e ≡ u.den * weigh l m t.num p) e (stewart l m t.num p)

  pub weigh_le : (p q : Site) → distance_at l t p ≤ distance_at l t q → weigh l m t.num p ≤ weigh l m t.num q
  weigh_le p q h = cancel_le _ _ t.den w.positive (omega (arith, stewart_at p, stewart_at q))

  pub far_le : (p q : Site) → weigh l m t.num p ≤ weigh l m t.num q → distance_at l t p ≤ distance_at l t q
  far_le p q h = omega (arith, mul-le-mul_left t.den h, stewart_at p, stewart_at q)

  pub far_eq : (p q : Site) → weigh l m t.num p ≡ weigh l m t.num q → distance_at l t p ≡ distance_at l t q
  far_eq p q h = omega (arith, far_le p q (omega arith), far_le q p (omega arith))

  -- strictly nearer, by the weights
  pub nearer : (p q : Site) → weigh l m t.num p < weigh l m t.num q → distance_at l t p < distance_at l t q
  nearer p q h = go (dec_lt (distance_at l t p) (distance_at l t q))
    where
      go : Dec (distance_at l t p < distance_at l t q) → distance_at l t p < distance_at l t q
      go (yes k) = k
      go (no k) = absurd (omega (arith, weigh_le q p (omega arith)))

-- the weights of a sum
pub weigh_mix : (l : Leg) (a m n b x y : ℕ) (p : Site) → weigh l (a * m + b * x) (a * n + b * y) p ≡ a * weigh l m n p + b * weigh l x y p
unfolding weigh
weigh_mix l a m n b x y p = omega arith

pub weigh_times : (l : Leg) (a m n : ℕ) (p : Site) → weigh l (a * m) (a * n) p ≡ a * weigh l m n p
unfolding weigh
weigh_times l a m n p = omega arith

-- a fraction between two others, by weights: c times the middle is a times the left and b times the right
pub record Between (m1 n1 m2 n2 m3 n3 : ℕ) : Type 0 where
  pub a : ℕ
  pub b : ℕ
  pub c : ℕ
  pub a_is : a + n2 * m3 ≡ n3 * m2
  pub b_is : b + n1 * m2 ≡ n2 * m1
  pub c_is : c + n1 * m3 ≡ n3 * m1
  pub m_is : c * m2 ≡ a * m1 + b * m3
  pub n_is : c * n2 ≡ a * n1 + b * n3

between : (m1 n1 m2 n2 m3 n3 : ℕ) → n1 * m2 ≤ n2 * m1 → n2 * m3 ≤ n3 * m2 → n1 * m3 ≤ n3 * m1 → Between m1 n1 m2 n2 m3 n3
between m1 n1 m2 n2 m3 n3 h k g =
    go (n3 * m2 - n2 * m3) (n2 * m1 - n1 * m2) (n3 * m1 - n1 * m3) (omega arith) (omega arith) (omega arith)
  where
    go : (a b c : ℕ) → a + n2 * m3 ≡ n3 * m2 → b + n1 * m2 ≡ n2 * m1 → c + n1 * m3 ≡ n3 * m1 → Between m1 n1 m2 n2 m3 n3
    go a b c ea eb ec =
        record {
          a = a;
          b = b;
          c = c;
          a_is = ea;
          b_is = eb;
          c_is = ec;
          m_is = omega (arith, ap (λ (x : ℕ). x * m1) ea, ap (λ (x : ℕ). x * m3) eb, ap (λ (x : ℕ). x * m2) ec);
          n_is = omega (arith, ap (λ (x : ℕ). x * n1) ea, ap (λ (x : ℕ). x * n3) eb, ap (λ (x : ℕ). x * n2) ec);
        }

-- what is weighed at the middle, by what is weighed left and right
pub weigh_between : (l : Leg) (m1 n1 m2 n2 m3 n3 : ℕ) (r : Between m1 n1 m2 n2 m3 n3) (p : Site)
    → r.c * weigh l m2 n2 p ≡ r.a * weigh l m1 n1 p + r.b * weigh l m3 n3 p
weigh_between l m1 n1 m2 n2 m3 n3 r p =
    sym (weigh_times l r.c m2 n2 p)
    ∙ ap (λ (x : ℕ). weigh l x (r.c * n2) p) r.m_is
    ∙ ap (λ (x : ℕ). weigh l (r.a * m1 + r.b * m3) x p) r.n_is
    ∙ weigh_mix l r.a m1 n1 r.b m3 n3 p

-- the order of fractions by weights
before_weights : (s t : Fraction) (m x : ℕ) → Weights s m → Weights t x → Below s t → s.num * x < t.num * m
before_weights s t m x ws wt h =
    let k : s.num * (x + t.num) < t.num * (m + s.num) = rw (← wt.parts, ← ws.parts) h in
    omega arith

upto_weights : (s t : Fraction) (m x : ℕ) → Weights s m → Weights t x → NotAbove s t → s.num * x ≤ t.num * m
upto_weights s t m x ws wt h =
    let k : s.num * (x + t.num) ≤ t.num * (m + s.num) = rw (← wt.parts, ← ws.parts) h in
    omega arith

-- a fraction u from t to v: c times what is weighed there is a times that at t and b times that at v; a is 0 only where u is at v, b only where u is at t
pub record Mix (l : Leg) (t u v : Fraction) : Type 0 where
  pub a : ℕ
  pub b : ℕ
  pub c : ℕ
  pub a_pos : Below u v → 1 ≤ a
  pub b_pos : Below t u → 1 ≤ b
  pub c_pos : 1 ≤ c
  pub mixed : (p : Site) → c * weigh_at l u p ≡ a * weigh_at l t p + b * weigh_at l v p

pub mix : (l : Leg) (t u v : Fraction) → IsFraction t → IsFraction u → IsFraction v → NotAbove t u → NotAbove u v → Below t v → Mix l t u v
unfolding weigh_at
mix l t u v ft fu fv tu uv tv =
    go
    (between (t.den - t.num) t.num (u.den - u.num) u.num (v.den - v.num) v.num
    (upto_weights t u _ _ (weights t ft) (weights u fu) tu)
    (upto_weights u v _ _ (weights u fu) (weights v fv) uv)
    (omega (arith, before_weights t v _ _ (weights t ft) (weights v fv) tv)))
  where
    go : Between (t.den - t.num) t.num (u.den - u.num) u.num (v.den - v.num) v.num → Mix l t u v
    go r =
        record {
          a = r.a;
          b = r.b;
          c = r.c;
          a_pos = λ h. omega (arith, r.a_is, before_weights u v _ _ (weights u fu) (weights v fv) h);
          b_pos = λ h. omega (arith, r.b_is, before_weights t u _ _ (weights t ft) (weights u fu) h);
          c_pos = omega (arith, r.c_is, before_weights t v _ _ (weights t ft) (weights v fv) tv);
          mixed = λ p. weigh_between l _ _ _ _ _ _ r p;
        }

module _ (l : Leg) (t : Fraction) (f : IsFraction t) (p q : Site) where
  pub at_le : distance_at l t p ≤ distance_at l t q → weigh_at l t p ≤ weigh_at l t q
  unfolding weigh_at
  at_le = weigh_le l t (t.den - t.num) (weights t f) p q

  pub at_far : weigh_at l t p ≤ weigh_at l t q → distance_at l t p ≤ distance_at l t q
  unfolding weigh_at
  at_far = far_le l t (t.den - t.num) (weights t f) p q

module _ (l : Leg) (t : Fraction) (f : IsFraction t) (p q : Site) where
  pub at_eq : distance_at l t p ≡ distance_at l t q → weigh_at l t p ≡ weigh_at l t q
  at_eq e = omega (arith, at_le l t f p q (omega arith), at_le l t f q p (omega arith))

  pub at_far_eq : weigh_at l t p ≡ weigh_at l t q → distance_at l t p ≡ distance_at l t q
  at_far_eq e = omega (arith, at_far l t f p q (omega arith), at_far l t f q p (omega arith))

  pub at_lt : distance_at l t p < distance_at l t q → weigh_at l t p < weigh_at l t q
  at_lt h = go (dec_lt (weigh_at l t p) (weigh_at l t q))
    where
      go : Dec (weigh_at l t p < weigh_at l t q) → weigh_at l t p < weigh_at l t q
      go (yes k) = k
      go (no k) = absurd (omega (arith, at_far l t f q p (omega arith)))

  pub at_nearer : weigh_at l t p < weigh_at l t q → distance_at l t p < distance_at l t q
  unfolding weigh_at
  at_nearer = nearer l t (t.den - t.num) (weights t f) p q
