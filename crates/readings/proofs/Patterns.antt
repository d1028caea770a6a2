-- A pattern of 32 bits and the float that it is: the definitions of specs/Reading.antt say of each what the logic's
-- account of IEEE 754 says.
-- Assumes nothing.
use Rattle.std.proofs.Common.{◌≡◌, ℕ, zero, suc, ◌+◌, ◌*◌, ◌%◌, ◌^◌, ◌<◌, ◌≤◌, Bool, true, false, cond, not, T, eqb, ltb, sym, refl, ap, ◌∙◌, subst, mul-one, arith, eqb→eq, ltb→lt, lt→ltb, nltb→le, pow_pos}
use lib.Dec.{not_T}
use lib.Ieee.{Float, nan, inf, fin, binary32, up, down, odd, of_fields, of_bits, nan_bits}
use lib.Ieee.Bits.{is_true, is_false, cond_no, nan_bits_above}
use lib.Ieee.Fits.{down_pos}
use lib.Ieee.Exact.{HasValue, odd_sign}
use lib.Ieee.Scale.{finite}
use Rattle.grid.specs.Coordinate.{from_word}
use Rattle.readings.specs.Reading.{negative, field, digits, finite?, metre, sized, units, nearest_step, step_word, word_of, coordinate_of}
use Rattle.readings.specs.Location.{coordinate_in, number_of}
use Rattle.readings.proofs.Rounding.{nearest_same}

-- ---- what a finite pattern is worth
fields_value : (s : Bool) (x t : ℕ) → x < 255 → HasValue (of_fields binary32 s x t) s (sized x t) metre
unfolding of_fields metre
fields_value s zero t h = subst (λ (y : ℕ). HasValue (odd 24 s t 0 149) s y (2 ^ 149)) (mul-one t) (odd_sign 24 s t 0 149)
fields_value s (suc x) t h =
    let o = odd 24 s (2 ^ 23 + t) x 149 in
    let e : cond (eqb (suc x) 255) (cond (eqb t 0) (inf s) nan) o ≡ o =
    cond_no (eqb (suc x) 255) (cond (eqb t 0) (inf s) nan) o (not_T (eqb (suc x) 255) (λ u. omega (arith, eqb→eq (suc x) 255 u))) in
    subst (λ (y : Float). HasValue y s ((2 ^ 23 + t) * 2 ^ x) (2 ^ 149)) (sym e) (odd_sign 24 s (2 ^ 23 + t) x 149)

-- THE VALUE of a finite pattern is its `units`, of which `metre` are a metre
pub pattern_value : (b : ℕ) → T (finite? b) → HasValue (of_bits binary32 b) (negative b) (units b) metre
unfolding of_bits
pattern_value b h = fields_value (negative b) (field b) (digits b) (ltb→lt (field b) 255 h)

-- ---- finite patterns are those of the finite floats
value_finite : (x : Float) (s : Bool) (a c : ℕ) → HasValue x s a c → finite x ≡ true
value_finite nan s a c h = absurd h
value_finite (inf t) s a c h = absurd h
value_finite (fin t m e) s a c h = refl

ones_not : (s : Bool) (x t : ℕ) → x ≡ 255 → finite (of_fields binary32 s x t) ≡ false
unfolding of_fields
ones_not s x t e = rw e (go (eqb t 0))
  where
    go : (b : Bool) → finite (cond b (inf s) nan) ≡ false
    go true = refl
    go false = refl

field_most : (b : ℕ) → field b ≤ 255
field_most b = omega arith

pub finite_pattern : (b : ℕ) → finite (of_bits binary32 b) ≡ finite? b
unfolding of_bits
finite_pattern b = go (finite? b) refl
  where
    other : finite? b ≡ false → finite (of_bits binary32 b) ≡ false
    other e = ones_not (negative b) (field b) (digits b) (omega (arith, field_most b, nltb→le (field b) 255 (subst (λ (t : Bool). T (not t)) (sym e) tt)))

    go : (t : Bool) → finite? b ≡ t → finite (of_bits binary32 b) ≡ t
    go true e = value_finite (of_bits binary32 b) (negative b) (units b) metre (pattern_value b (subst T (sym e) tt))
    go false e = other e

-- ---- THE COORDINATE of a finite pattern's float is that of the pattern
pub metre_pos : 0 < metre
unfolding metre
metre_pos = pow_pos 149

by_value : (x : Float) (s : Bool) (a c : ℕ) → 0 < c → HasValue x s a c → coordinate_in x ≡ from_word (step_word s (nearest_step a c))
unfolding coordinate_in
by_value nan s a c C h = absurd h
by_value (inf t) s a c C h = absurd h
by_value (fin t m e) s a c C h = rw (h.0, nearest_same (m * up e) (down e) a c (down_pos e) C h.1)

pub coordinate_pattern : (b : ℕ) → T (finite? b) → coordinate_in (of_bits binary32 b) ≡ coordinate_of b
unfolding coordinate_of word_of
coordinate_pattern b h = by_value (of_bits binary32 b) (negative b) (units b) metre metre_pos (pattern_value b h)

-- ---- `number`: the finite patterns lie below infinity's

none : of_bits binary32 0x7FC00000 ≡ nan
unfolding of_bits
none = refl

pub number_finite : (b : ℕ) → T (finite? b) → number_of b ≡ of_bits binary32 b
unfolding number_of
number_finite b h = rw (is_true (finite? b) h) refl

pub number_not : (b : ℕ) → finite? b ≡ false → number_of b ≡ nan
unfolding number_of
number_not b h = rw h refl

-- the test of the code
below_infinity : (b : ℕ) → b % 0x80000000 < 0x7F800000 → T (finite? b)
below_infinity b h = lt→ltb (field b) 255 (omega arith)

from_infinity : (b : ℕ) → 0x7F800000 ≤ b % 0x80000000 → finite? b ≡ false
from_infinity b h = is_false (finite? b) (not_T (finite? b) (λ u. omega (arith, ltb→lt (field b) 255 u)))

pub number_some : (b : ℕ) → b % 0x80000000 < 0x7F800000 → of_bits binary32 b ≡ number_of b
number_some b h = sym (number_finite b (below_infinity b h))

pub number_none : (b : ℕ) → 0x7F800000 ≤ b % 0x80000000 → of_bits binary32 0x7FC00000 ≡ number_of b
number_none b h = none ∙ sym (number_not b (from_infinity b h))

-- what `from_bits` asks
pub number_asks : (b : ℕ) → b % 0x80000000 ≤ 0x7F800000 → T (not (nan_bits binary32 b))
number_asks b h = rw nan_bits_above (not_T (ltb 0x7F800000 (b % 0x80000000)) (λ u. omega (arith, ltb→lt 0x7F800000 (b % 0x80000000) u)))

-- ---- THE READING of a pattern: finite where the pattern is, and with its coordinate
pub finite_number : (b : ℕ) → finite (number_of b) ≡ finite? b
finite_number b = go (finite? b) refl
  where
    go : (t : Bool) → finite? b ≡ t → finite (number_of b) ≡ t
    go true e = ap finite (number_finite b (subst T (sym e) tt)) ∙ finite_pattern b ∙ e
    go false e = ap finite (number_not b e)

pub coordinate_number : (b : ℕ) → T (finite? b) → coordinate_in (number_of b) ≡ coordinate_of b
coordinate_number b h = ap coordinate_in (number_finite b h) ∙ coordinate_pattern b h
