-- Patterns and their steps, each by the law of every pattern.
-- Assumes nothing.
use Rattle.std.proofs.Common.{◌≡◌, ℕ, ◌+◌, ◌-◌, ◌*◌, ◌≤◌, Bool, true, false, not, T, eqb, ◌≢◌, sym, refl, ap, ◌∙◌, subst, arith, lit≤, eq-eqb}
use lib.Ieee.Exact.{HasValue}
use lib.Ieee.Scale.{finite}
use Rattle.limits.specs.Limits.{half_width, grid_width}
use Rattle.grid.specs.Coordinate.{from_word}
use Rattle.readings.specs.Reading.{negative, finite?, metre, units, Nearest, Within}
use Rattle.readings.specs.Location.{coordinate_in, number_of}
use Rattle.readings.specs.Patterns.{sided, RoundsTo}
use Rattle.readings.proofs.Rounding.{nearest_only, passes}
use Rattle.readings.proofs.Patterns.{metre_pos}
use Rattle.readings.proofs.Laws.{every_pattern}

-- two numbers that are not the same
apart : {a b : ℕ} → T (not (eqb a b)) → a ≢ b
apart {a} {b} h e = subst (λ (t : Bool). T (not t)) (eq-eqb a b e) h

-- a finite pattern
of : (b : ℕ) → T (finite? b) → RoundsTo b (coordinate_in (number_of b))
of b f = (every_pattern b).rounds f

-- k steps and a half: the step above k
pub half_is : (b k : ℕ) → T (finite? b) → units b ≡ 100 * k * metre + 50 * metre → k + 1 ≤ half_width
    → coordinate_in (number_of b) ≡ sided (negative b) (k + 1)
half_is b k f e l =
    let r = of b f in
    let s = r.half k e in
    r.on_grid (omega arith) ∙ ap (sided (negative b)) s

-- near the step k
pub near_is : (b k : ℕ) → T (finite? b) → Nearest (units b) metre k → k ≤ half_width
    → coordinate_in (number_of b) ≡ sided (negative b) k
near_is b k f n l =
    let r = of b f in
    let s = r.only k n in
    r.on_grid (omega arith) ∙ ap (sided (negative b)) (sym s)

-- beyond the grid's last half
pub beyond_is : (b : ℕ) → T (finite? b) → (100 * half_width + 50) * metre ≤ units b → coordinate_in (number_of b) ≡ from_word 32767
beyond_is b f l =
    let r = of b f in
    r.off_grid (omega (arith, nearest_only (units b) metre r.step metre_pos r.nearest, passes (units b) metre half_width metre_pos l))

-- 50 m: step 1; the number below it, 49.999996 m: step 0
pub half_up : coordinate_in (number_of 0x42480000) ≡ half_width + 1
unfolding metre
half_up = half_is 0x42480000 0 tt refl (lit≤ tt)

pub below_half : coordinate_in (number_of 0x4247FFFF) ≡ half_width + 0
unfolding metre
below_half = near_is 0x4247FFFF 0 tt (record { below = lit≤ tt; above = lit≤ tt; half = apart tt }) (lit≤ tt)

-- -50 m: step -1; -49.999996 m: step 0
pub half_down : coordinate_in (number_of 0xC2480000) ≡ half_width - 1
unfolding metre
half_down = half_is 0xC2480000 0 tt refl (lit≤ tt)

pub above_half : coordinate_in (number_of 0xC247FFFF) ≡ half_width - 0
unfolding metre
above_half = near_is 0xC247FFFF 0 tt (record { below = lit≤ tt; above = lit≤ tt; half = apart tt }) (lit≤ tt)

-- 250 m: step 3, and not the even 2
pub not_even : coordinate_in (number_of 0x437A0000) ≡ half_width + 3
unfolding metre
not_even = half_is 0x437A0000 2 tt refl (lit≤ tt)

-- NEGATIVE ZERO IS STEP 0
pub negative_zero : coordinate_in (number_of 0x80000000) ≡ half_width - 0
unfolding metre
negative_zero = near_is 0x80000000 0 tt (record { below = lit≤ tt; above = lit≤ tt; half = apart tt }) (lit≤ tt)

-- 1,200,049.875 m, the last number on the grid: the last step; 1,200,050 m: beyond it
pub last_on : coordinate_in (number_of 0x49927D8F) ≡ half_width + half_width
unfolding metre
last_on = near_is 0x49927D8F half_width tt (record { below = lit≤ tt; above = lit≤ tt; half = apart tt }) (lit≤ tt)

pub first_off : coordinate_in (number_of 0x49927D90) ≡ from_word 32767
unfolding metre
first_off = beyond_is 0x49927D90 tt (lit≤ tt)

-- the largest number, some 3.4 * 10 ^ 38 m: off the grid, and no overflow
pub largest : coordinate_in (number_of 0x7F7FFFFF) ≡ from_word 32767
unfolding metre
largest = beyond_is 0x7F7FFFFF tt (lit≤ tt)

-- the smallest, 2 ^ -149 m; a metre is that many
pub smallest : HasValue (number_of 1) false 1 metre
smallest = (of 1 tt).value

pub one_metre : HasValue (number_of 0x3F800000) false metre metre
unfolding metre
one_metre = (of 0x3F800000 tt).value

-- 1,234.5 m and its step are at most 50 m apart, and so are -99.9 m and its own
pub within_east : (x : ℕ) → x ≡ coordinate_in (number_of 0x449A5000) → x ≤ grid_width
    → (100 * x * metre ≤ units 0x449A5000 + 100 * half_width * metre + 50 * metre)
    × (units 0x449A5000 + 100 * half_width * metre ≤ 100 * x * metre + 50 * metre)
within_east x e l = subst (λ (y : ℕ). y ≤ grid_width → Within false (units 0x449A5000) metre y) (sym e) (of 0x449A5000 tt).within l

pub within_west : (x : ℕ) → x ≡ coordinate_in (number_of 0xC2C7CCCD) → x ≤ grid_width
    → (100 * x * metre + units 0xC2C7CCCD ≤ 100 * half_width * metre + 50 * metre)
    × (100 * half_width * metre ≤ 100 * x * metre + units 0xC2C7CCCD + 50 * metre)
within_west x e l = subst (λ (y : ℕ). y ≤ grid_width → Within true (units 0xC2C7CCCD) metre y) (sym e) (of 0xC2C7CCCD tt).within l

-- infinity, and no number
pub infinity : finite (number_of 0x7F800000) ≡ false
infinity = (every_pattern 0x7F800000).is_finite

pub no_number : finite (number_of 0xFFC00000) ≡ false
no_number = (every_pattern 0xFFC00000).is_finite
