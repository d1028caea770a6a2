-- The laws that the code's returns cite: of `steps`, which takes a value above zero, and of `coordinate`.
-- Assumes nothing.
use lib.Ieee.{nan, inf, Float, fin, binary32, neg, lt, of_int, to_unsigned, rem, of_bits, fits}
use Rattle.std.proofs.Common.{◌≡◌, ℕ, ◌+◌, ◌-◌, ◌*◌, ◌/◌, ◌%◌, ◌<◌, ◌≤◌, true, false, T, pos, sym, ap, ◌∙◌, div-lt_iff_lt-mul, arith, lit<, lit≤}
use lib.Ieee.Positive.{num, den, positive, den_pos, own_value}
use Rattle.limits.specs.Limits.{half_width}
use Rattle.readings.specs.Reading.{nearest_step, beyond_step}
use Rattle.readings.specs.Location.{sign_of, steps_of, coordinate_in, Rounded}
use Rattle.readings.proofs.Rounding.{reaches, passes, metres_below, metres_above, nearest_zero, rest_below, rest_above}
use Rattle.readings.proofs.StepWords.{kept_on, kept_off, kept_most, east_of, west_of, west_off, word_zero, within_of}
use Rattle.readings.proofs.Exactly.{lt_yes, lt_no, whole_value, metres_are, truncates, fifty, rem_exact}

-- the metres from the grid's middle to a half beyond its last step
abbrev edge : Float
edge = of_int binary32 (pos (100 * half_width + 50))

-- ---- `steps`
module _ (x : Float) (p : T (positive x)) where
  near : lt x edge ≡ true → num x < (100 * half_width + 50) * den x
  near h = omega (arith, lt_yes (num x) (den x) (100 * half_width + 50) 1 (den_pos x) (lit< tt) x edge (own_value x p) (whole_value (100 * half_width + 50) (lit≤ tt)) h)

  far : lt x edge ≡ false → (100 * half_width + 50) * den x ≤ num x
  far h = omega (arith, lt_no (num x) (den x) (100 * half_width + 50) 1 (den_pos x) (lit< tt) x edge (own_value x p) (whole_value (100 * half_width + 50) (lit≤ tt)) h)

  pub steps_truncates : lt x edge ≡ true → T (lt (fin true 1 (pos 0)) x) × T (lt x (fin false 1 (pos 64)))
  steps_truncates h = truncates x (100 * half_width + 50) p (near h) (lit< tt)

  metres : lt x edge ≡ true → to_unsigned 64 x ≡ num x / den x
  metres h = metres_are x (100 * half_width + 50) p (near h) (lit< tt)

  -- on the grid the result is the nearest step
  pub steps_is : lt x edge ≡ true → (k : ℕ) → k ≡ nearest_step (num x) (den x) → k ≡ steps_of x
  unfolding steps_of
  steps_is h k e = e ∙ sym (kept_on (nearest_step (num x) (den x)) (reaches (num x) (den x) half_width (den_pos x) (near h)))

  pub steps_off : lt x edge ≡ false → beyond_step ≡ steps_of x
  unfolding steps_of
  steps_off h = sym (kept_off (nearest_step (num x) (den x)) (passes (num x) (den x) half_width (den_pos x) (far h)))

  module _ (m : ℕ) (h : lt x edge ≡ true) (e : m ≡ to_unsigned 64 x) where
    at : m / 100 ≡ num x / den x / 100
    at = ap (λ (y : ℕ). y / 100) (e ∙ metres h)

    -- BELOW THE HALF
    pub steps_below : T (fits binary32 x) → lt (rem binary32 x (of_bits binary32 0x42C80000)) (of_bits binary32 0x42480000) ≡ true → m / 100 ≡ steps_of x
    steps_below t g =
        let l = lt_yes (num x % (100 * den x)) (den x) 50 1 (den_pos x) (lit< tt) (rem binary32 x (of_bits binary32 0x42C80000)) (of_bits binary32 0x42480000) (rem_exact x p t) fifty g in
        steps_is h (m / 100) (at ∙ rest_below (num x) (den x) (den_pos x) (omega arith))

    -- ON THE HALF OR ABOVE
    pub steps_above : T (fits binary32 x) → lt (rem binary32 x (of_bits binary32 0x42C80000)) (of_bits binary32 0x42480000) ≡ false → m / 100 + 1 ≡ steps_of x
    steps_above t g =
        let l = lt_no (num x % (100 * den x)) (den x) 50 1 (den_pos x) (lit< tt) (rem binary32 x (of_bits binary32 0x42C80000)) (of_bits binary32 0x42480000) (rem_exact x p t) fifty g in
        steps_is h (m / 100 + 1) (ap (λ (y : ℕ). y + 1) at ∙ rest_above (num x) (den x) (den_pos x) (omega arith))

    -- BELOW THE HALF, by the whole metres: fewer than 50 are left
    pub few_metres : m % 100 < 50 → m / 100 ≡ steps_of x
    few_metres g = steps_is h (m / 100) (metres_below (num x) (den x) m (den_pos x) (e ∙ metres h) g)

    -- ON THE HALF OR ABOVE: 50 or more are left
    pub many_metres : 50 ≤ m % 100 → m / 100 + 1 ≡ steps_of x
    many_metres g = steps_is h (m / 100 + 1) (metres_above (num x) (den x) m (den_pos x) (e ∙ metres h) g)

    -- the hundreds of metres are few
    pub steps_few : m / 100 ≤ half_width
    steps_few =
        let l : num x / den x < 100 * half_width + 50 = (div-lt_iff_lt-mul (den_pos x)).1 (near h) in
        omega (arith, at)

-- ---- `coordinate`
pub steps_most : (x : Float) → steps_of x ≤ beyond_step
unfolding steps_of
steps_most x = kept_most (nearest_step (num x) (den x))

rounded : (x : Float) (r : ℕ) → r ≡ coordinate_in x → Rounded x r
unfolding coordinate_in
rounded x r e = record { is = e; within = λ h. rw e (within_of (sign_of x) (num x) (den x) (den_pos x) (rw e at h)) }

pub east_returns : (x : Float) → T (positive x) → (r : ℕ) → r ≡ steps_of x → Rounded x (half_width + r)
unfolding steps_of coordinate_in
east_returns nan p r h = elim p [ ]
east_returns (inf _) p r h = elim p [ ]
east_returns (fin true m e) p r h = elim p [ ]
east_returns (fin false m e) p r h = rounded (fin false m e) (half_width + r) (ap (λ (y : ℕ). half_width + y) h ∙ east_of (nearest_step (num (fin false m e)) (den (fin false m e))))

pub west_returns : (x : Float) → T (positive (neg x)) → (r : ℕ) → r ≡ steps_of (neg x) → r ≤ half_width → Rounded x (half_width - r)
unfolding steps_of coordinate_in neg
west_returns nan p r h l = elim p [ ]
west_returns (inf _) p r h l = elim p [ ]
west_returns (fin false m e) p r h l = elim p [ ]
west_returns (fin true m e) p r h l = rounded (fin true m e) (half_width - r) (rw h (west_of (nearest_step (num (fin true m e)) (den (fin true m e))) (rw h at l)))

pub west_beyond : (x : Float) → T (positive (neg x)) → (r : ℕ) → r ≡ steps_of (neg x) → half_width < r → Rounded x (half_width + r)
unfolding steps_of coordinate_in neg
west_beyond nan p r h l = elim p [ ]
west_beyond (inf _) p r h l = elim p [ ]
west_beyond (fin false m e) p r h l = elim p [ ]
west_beyond (fin true m e) p r h l = rounded (fin true m e) (half_width + r) (rw h (west_off (nearest_step (num (fin true m e)) (den (fin true m e))) (rw h at l)))

pub zero_returns : (x : Float) → num x ≡ 0 → Rounded x half_width
unfolding coordinate_in
zero_returns x h =
    let e : nearest_step (num x) (den x) ≡ 0 = rw h (nearest_zero (den x) (den_pos x)) in
    rounded x half_width (rw e (sym (word_zero (sign_of x))))
