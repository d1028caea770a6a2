-- What the code's operations on floats are at finite values above zero, as fractions: comparison, the remainder by
-- 100, which is exact, and the whole metres.
-- Assumes nothing.
use Rattle.std.proofs.Common.{◌≡◌, ℕ, zero, suc, ◌+◌, ◌-◌, ◌*◌, ◌/◌, ◌%◌, ◌^◌, ◌<◌, ◌≤◌, min, Bool, true, false, not, ◌&&◌, T, eqb, ltb, leb, ℤ, pos, negsuc, sym, refl, ap, ◌∙◌, subst, true≢false, lt_of_lt_of_le, lt_of_le_of_lt, mul-le-mul_right, mod-lt, zero-lt-suc, mul_assoc, div-lt_iff_lt-mul, lt_of_not-le, mul-one, not-le_of_lt, arith, lit<, lit≤, ltb→lt, lt→ltb, leb→le, nltb→le, pow_pos, pow_mono, pow-add, shl_lt}
use native.Mathlib.Nat.{mod-le}
use lib.Pow.{pow-lt}
use lib.Ieee.{Float, nan, inf, fin, binary32, up, down, round, rem, neg, lt, of_int, to_unsigned, of_bits, fits}
use lib.Ieee.Digits.{back}
use lib.Ieee.Fits.{down_pos, and_l, and_r}
use lib.Ieee.Exact.{HasValue, round_exact}
use lib.Ieee.Back.{round_whole}
use lib.Ieee.Order.{transfer}
use lib.Ieee.Scale.{finite}
use lib.Ieee.Positive.{num, den, positive}

-- ---- comparison of a / c with b / d
module _ (a c b d : ℕ) (C : 0 < c) (D : 0 < d) where
  pub lt_yes : (x y : Float) → HasValue x false a c → HasValue y false b d → lt x y ≡ true → a * d < b * c
  unfolding lt
  lt_yes (fin false m e) (fin false n g) p q h =
      lt_of_not-le (λ (k : b * c ≤ a * d). not-le_of_lt (ltb→lt (m * up e * down g) (n * up g * down e) (subst T (sym h) tt)) (transfer (n * up g) (m * up e) (down g) (down e) b a d c D C q.1 p.1 k))
  lt_yes nan y p q h = absurd p
  lt_yes (inf s) y p q h = absurd p
  lt_yes (fin true m e) y p q h = absurd (true≢false p.0)
  lt_yes (fin false m e) nan p q h = absurd q
  lt_yes (fin false m e) (inf s) p q h = absurd q
  lt_yes (fin false m e) (fin true n g) p q h = absurd (true≢false q.0)

  pub lt_no : (x y : Float) → HasValue x false a c → HasValue y false b d → lt x y ≡ false → b * c ≤ a * d
  unfolding lt
  lt_no (fin false m e) (fin false n g) p q h =
      transfer b a d c (n * up g) (m * up e) (down g) (down e) (down_pos g) (down_pos e) (sym q.1) (sym p.1)
      (nltb→le (m * up e * down g) (n * up g * down e) (subst (λ (t : Bool). T (not t)) (sym h) tt))
  lt_no nan y p q h = absurd p
  lt_no (inf s) y p q h = absurd p
  lt_no (fin true m e) y p q h = absurd (true≢false p.0)
  lt_no (fin false m e) nan p q h = absurd q
  lt_no (fin false m e) (inf s) p q h = absurd q
  lt_no (fin false m e) (fin true n g) p q h = absurd (true≢false q.0)

-- ---- whole numbers as floats
pub whole_value : (n : ℕ) → n ≤ 2 ^ 24 → HasValue (of_int binary32 (pos n)) false n 1
unfolding of_int
whole_value n h = round_whole binary32 false n h

pub fifty : HasValue (of_bits binary32 0x42480000) false 50 1
unfolding of_bits
fifty = (refl, refl)

-- ---- what a format holds
module _ (m : ℕ) (e : ℤ) (t : T (fits binary32 (fin false (suc m) e))) where
  digits_few : suc m < 2 ^ 24
  unfolding fits
  digits_few =
      let a : Bool = eqb (suc m % 2) 1 in
      let b : Bool = ltb (suc m) (2 ^ 24) in
      let c : Bool = leb (down e) (2 ^ 149) in
      let d : Bool = ltb (suc m * up e) (2 ^ 128 * down e) in
      ltb→lt (suc m) (2 ^ 24) (and_r a b (and_l (a && b) c (and_l (a && b && c) d t)))

  down_small : down e ≤ 2 ^ 149
  unfolding fits
  down_small =
      let a : Bool = eqb (suc m % 2) 1 in
      let b : Bool = ltb (suc m) (2 ^ 24) in
      let c : Bool = leb (down e) (2 ^ 149) in
      let d : Bool = ltb (suc m * up e) (2 ^ 128 * down e) in
      leb→le (down e) (2 ^ 149) (and_r (a && b) c (and_l (a && b && c) d t))

-- r of less than 24 binary digits over 2 ^ k is a value of the format
small_exact : (r k : ℕ) → r < 2 ^ 24 → k ≤ 149 → HasValue (round binary32 false r (2 ^ k)) false r (2 ^ k)
small_exact r k h l =
    round_exact binary32 false r (2 ^ k) r (149 - k) (pow_pos k) h
    (lt_of_lt_of_le (shl_lt 24 (149 - k) h) (pow_mono {j = 277} (omega arith)))
    (ap (λ (y : ℕ). r * y) (sym (ap (λ (y : ℕ). 2 ^ y) (back 149 k l)) ∙ pow-add 2 (149 - k) k) ∙ sym (mul_assoc r (2 ^ (149 - k)) (2 ^ k)))

exponent_small : (k : ℕ) → 2 ^ k ≤ 2 ^ 149 → k ≤ 149
exponent_small k h = le_of_not (λ (g : 149 < k). not-le_of_lt (pow-lt g) h)
  where
    le_of_not : (149 < k → ⊥) → k ≤ 149
    le_of_not f = omega (arith, f)

-- ---- THE REMAINDER BY 100 IS EXACT
pub rem_exact : (x : Float) → T (positive x) → T (fits binary32 x) → HasValue (rem binary32 x (of_bits binary32 0x42C80000)) false (num x % (100 * den x)) (den x)
unfolding rem of_bits
rem_exact nan p t = elim p [ ]
rem_exact (inf _) p t = elim p [ ]
rem_exact (fin true _ e) p t = elim p [ ]
rem_exact (fin false zero e) p t = absurd p
rem_exact (fin false (suc m) (pos k)) p t =
    let r = suc m * 2 ^ k % 100 in
    let h : r < 2 ^ 24 = lt_of_lt_of_le (mod-lt (suc m * 2 ^ k) {m = 100} (lit< tt)) (lit≤ tt) in
    subst (λ (y : ℕ). HasValue (round binary32 false (y % 100) 1) false r 1) (sym (mul-one (suc m * 2 ^ k))) (small_exact r 0 h (lit≤ tt))
rem_exact (fin false (suc m) (negsuc k)) p t =
    let z = 2 ^ suc k in
    let r = suc m * 1 % (100 * z) in
    let h : r < 2 ^ 24 = lt_of_le_of_lt (mod-le (suc m * 1) (100 * z)) (subst (λ (y : ℕ). y < 2 ^ 24) (sym (mul-one (suc m))) (digits_few m (negsuc k) t)) in
    subst (λ (y : ℕ). HasValue (round binary32 false (y % (100 * z)) (z * 1)) false r z) (sym (mul-one (suc m * 1)))
    (subst (λ (y : ℕ). HasValue (round binary32 false r y) false r z) (sym (mul-one z)) (small_exact r (suc k) h (exponent_small (suc k) (down_small m (negsuc k) t))))

-- ---- the whole metres of a value below n metres
pub metres_are : (x : Float) (n : ℕ) → T (positive x) → num x < n * den x → n < 2 ^ 64 → to_unsigned 64 x ≡ num x / den x
unfolding to_unsigned
metres_are nan n p h l = elim p [ ]
metres_are (inf _) n p h l = elim p [ ]
metres_are (fin true m e) n p h l = elim p [ ]
metres_are (fin false m e) n p h l = uncapped (m * up e / down e) n (2 ^ 64) ((div-lt_iff_lt-mul (down_pos e)).1 h) l
  where
    uncapped : (a n c : ℕ) → a < n → n < c → min a (c - 1) ≡ a
    uncapped a n c h k = omega arith

-- ---- what `truncating_f32_to_u64` asks
pub truncates : (x : Float) (n : ℕ) → T (positive x) → num x < n * den x → n < 2 ^ 64 → T (lt (fin true 1 (pos 0)) x) × T (lt x (fin false 1 (pos 64)))
unfolding lt
truncates nan n p h l = elim p [ ]
truncates (inf _) n p h l = elim p [ ]
truncates (fin true m e) n p h l = elim p [ ]
truncates (fin false m e) n p h l = (
  lt→ltb 0 (1 * down e + m * up e * 1) (omega (arith, down_pos e)),
  lt→ltb (m * up e * 1) (1 * 2 ^ 64 * down e) (omega (arith, mul-le-mul_right (down e) l)),
)

-- ---- where a finite value lies of zero
is_below : (a b : ℕ) → ltb a b ≡ true → a < b
is_below a b h = ltb→lt a b (subst T (sym h) tt)

is_not : (a b : ℕ) → ltb a b ≡ false → b ≤ a
is_not a b h = nltb→le a b (subst (λ (t : Bool). T (not t)) (sym h) tt)

factor : (m u : ℕ) → 0 < m * u → 0 < m
factor zero u h = omega arith
factor (suc m) u h = zero-lt-suc m

-- above it
pub above_zero : (x : Float) → T (finite x) → lt (of_bits binary32 0) x ≡ true → T (positive x)
unfolding lt of_bits
above_zero nan f h = elim f [ ]
above_zero (inf _) f h = elim f [ ]
above_zero (fin false m e) f h = lt→ltb 0 m (factor m (up e) (omega (arith, is_below (0 * down e) (m * up e * 1) h)))
above_zero (fin true m e) f h = absurd (true≢false (sym h))

-- below it
pub below_zero : (x : Float) → T (finite x) → lt x (of_bits binary32 0) ≡ true → T (positive (neg x))
unfolding lt of_bits neg
below_zero nan f h = elim f [ ]
below_zero (inf _) f h = elim f [ ]
below_zero (fin false m e) f h = absurd (omega (arith, is_below (m * up e * 1) (0 * down e) h))
below_zero (fin true m e) f h = lt→ltb 0 m (factor m (up e) (omega (arith, is_below 0 (m * up e * 1 + 0 * down e) h)))

-- at it, with either sign
pub at_zero : (x : Float) → T (finite x) → lt (of_bits binary32 0) x ≡ false → lt x (of_bits binary32 0) ≡ false → num x ≡ 0
unfolding lt of_bits
at_zero nan f g h = elim f [ ]
at_zero (inf _) f g h = elim f [ ]
at_zero (fin false m e) f g h = omega (arith, is_not (0 * down e) (m * up e * 1) g)
at_zero (fin true m e) f g h = omega (arith, is_not 0 (m * up e * 1 + 0 * down e) h)
