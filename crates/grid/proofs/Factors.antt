-- Common factors: what Euclid's rule keeps, and that it ends in the greatest one.
-- Assumes nothing.
use mathlib.Core.Path.{◌≡◌, refl, ap}
use mathlib.Core.Logic.{◌⊎◌, inl, inr}
use Prim.Native.Nat.{ℕ, zero, suc, ◌+◌, ◌*◌, ◌-◌, ◌/◌, ◌%◌, ◌≤◌, ◌<◌}
use native.Mathlib.Omega.{arith}
use native.Mathlib.Nat.{div-add-mod, mod-lt}
use Rattle.grid.specs.Fraction.{Divides, IsGcd, gcd_by, gcd_of}
use Rattle.grid.specs.Euclid.{NearestRest}
use Rattle.grid.proofs.Order.{cancel_le}

-- k a factor of n and of n + d is one of d
pub rest_factor : (n d k a b : ℕ) → n ≡ k * a → n + d ≡ k * b → d ≡ k * (b - a)
rest_factor n d zero a b ea eb = omega arith
rest_factor n d (suc k) a b ea eb =
    let h : suc k * a ≤ suc k * b = omega arith in
    let le : a ≤ b = cancel_le a b (suc k) (omega arith) (omega arith) in
    go (b - a) (omega arith)
  where
    go : (c : ℕ) → b ≡ a + c → d ≡ suc k * c
    go c e =
        let f : suc k * b ≡ suc k * (a + c) = ap (λ (x : ℕ). suc k * x) e in
        omega arith

pub factor_one : (k b : ℕ) → 1 ≡ k * b → k ≡ 1
factor_one zero b e = omega arith
factor_one (suc zero) b e = refl
factor_one (suc (suc k)) zero e = omega arith
factor_one (suc (suc k)) (suc b) e = absurd (omega arith)

-- the two pairs have the same common factors
pub record SameFactors (a b x y : ℕ) : Type 0 where
  pub to : (k : ℕ) → Divides k a → Divides k b → Divides k x × Divides k y
  pub back : (k : ℕ) → Divides k x → Divides k y → Divides k a × Divides k b

pub itself : (k : ℕ) → Divides k k
itself k = record { times = 1; is = omega arith }

pub nothing : (k : ℕ) → Divides k 0
nothing k = record { times = 0; is = omega arith }

times_more : (k n j : ℕ) → Divides k n → Divides k (n * j)
times_more k n j h = record { times = h.times * j; is = omega (arith, ap (λ (y : ℕ). y * j) h.is) }

sum : (k n m : ℕ) → Divides k n → Divides k m → Divides k (n + m)
sum k n m h g = record { times = h.times + g.times; is = omega (arith, h.is, g.is) }

rest : (k n m : ℕ) → Divides k n → Divides k (n + m) → Divides k m
rest k n m h g = record { times = g.times - h.times; is = rest_factor n m k h.times g.times h.is g.is }

pub same : (a b : ℕ) → SameFactors a b a b
same a b = record { to = λ k x y. (x, y); back = λ k x y. (x, y) }

pub step : (a b x y : ℕ) → SameFactors a b x y → SameFactors a b y (x % y)
step a b x y h =
    record {
      to = λ k p q. let d = h.to k p q in (d.1, rest k (y * (x / y)) (x % y) (times_more k y (x / y) d.1) (rw (div-add-mod x y) d.0));
      back = λ k p q. h.back k (rw (div-add-mod x y) at (sum k (y * (x / y)) (x % y) (times_more k y (x / y) p) q)) p;
    }

-- what is missing to y instead of the rest
missing : (a b y r : ℕ) → r < y → SameFactors a b y r → SameFactors a b y (y - r)
missing a b y r h s =
    let e : r + (y - r) ≡ y = omega arith in
    let f : (y - r) + r ≡ y = omega arith in
    record {
      to = λ k p q. let d = s.to k p q in (d.0, rest k r (y - r) d.1 (rw e d.0));
      back = λ k p q. s.back k p (rest k (y - r) r q (rw f p));
    }

pub step_near : (a b x y r : ℕ) → 0 < y → NearestRest x y r → SameFactors a b x y → SameFactors a b y r
step_near a b x y r h q s = go q.either (step a b x y s)
  where
    go : (r ≡ x % y) ⊎ (r ≡ y - x % y) → SameFactors a b y (x % y) → SameFactors a b y r
    go (inl e) f = rw e f
    go (inr e) f = rw e (missing a b y (x % y) (mod-lt x {m = y} h) f)

pub done : (a b x : ℕ) → SameFactors a b x 0 → IsGcd a b x
done a b x h =
    let d = h.back x (itself x) (nothing x) in
    record { left = d.0; right = d.1; greatest = λ k p q. (h.to k p q).0 }

gcd_by_lem : (k a b x y : ℕ) → y ≤ k → SameFactors a b x y → IsGcd a b (gcd_by k x y)
unfolding gcd_by
gcd_by_lem zero a b x y h s = let e : y ≡ 0 = omega arith in done a b x (rw e at s)
gcd_by_lem (suc k) a b x zero h s = done a b x s
gcd_by_lem (suc k) a b x (suc y) h s = gcd_by_lem k a b (suc y) (x % suc y) (omega (arith, mod-lt x {m = suc y} (omega arith))) (step a b x (suc y) s)

pub gcd_is : (a b : ℕ) → IsGcd a b (gcd_of a b)
unfolding gcd_of
gcd_is a b = gcd_by_lem b a b a b (omega arith) (same a b)

antisym : (g h s t : ℕ) → h ≡ g * s → g ≡ h * t → g ≡ h
antisym g h zero t e f = let z : h ≡ 0 = omega arith in omega (arith, rw z at f)
antisym g h (suc s) zero e f = let z : g ≡ 0 = omega arith in omega (arith, rw z at e)
antisym g h (suc s) (suc t) e f = omega arith

-- there is one greatest common factor
pub gcd_one : (a b g : ℕ) → IsGcd a b g → g ≡ gcd_of a b
gcd_one a b g h =
    let k = gcd_is a b in
    let to = k.greatest g h.left h.right in
    let back = h.greatest (gcd_of a b) k.left k.right in
    antisym g (gcd_of a b) to.times back.times to.is back.is

-- in either order
pub gcd_flip : (a b : ℕ) → gcd_of b a ≡ gcd_of a b
gcd_flip a b =
    let k = gcd_is b a in
    gcd_one a b (gcd_of b a) (record { left = k.right; right = k.left; greatest = λ d p q. k.greatest d q p })
