-- What document 02, C-15, says of readings, of every pattern of 32 bits.
-- Assumes nothing.
use Rattle.std.proofs.Common.{◌≡◌, ℕ, ◌+◌, ◌-◌, ◌*◌, ◌%◌, ◌<◌, ◌≤◌, Bool, true, false, cond, ◌&&◌, T, leb, List, sym, ap, ◌∙◌, ap₂, arith, leb→le}
use mathlib.Core.Path.{subst⁻¹}
use lib.Ieee.{Float}
use lib.Ieee.Exact.{HasValue}
use Rattle.limits.specs.Limits.{half_width}
use Rattle.grid.specs.Coordinate.{from_word, word_position}
use Rattle.readings.specs.Reading.{negative, finite?, metre, units, Nearest, nearest_step, beyond_step, step_word, word_of, coordinate_of}
use Rattle.readings.specs.Location.{coordinate_in, position_of, both_finite, long_at, number_of, reading_at}
use Rattle.readings.specs.Patterns.{sided, Receives}
use Rattle.readings.proofs.Rounding.{nearest_is, nearest_only}
use Rattle.readings.proofs.StepWords.{within_of, word_east, word_west, word_off}
use Rattle.readings.proofs.Patterns.{metre_pos, pattern_value, number_finite, finite_number, coordinate_number}

-- ---- the nearest step: there is one, and `nearest_step` computes it
pub nearest_pattern : (b : ℕ) → Nearest (units b) metre (nearest_step (units b) metre)
nearest_pattern b = nearest_is (units b) metre metre_pos

pub nearest_pattern_only : (b k : ℕ) → Nearest (units b) metre k → k ≡ nearest_step (units b) metre
nearest_pattern_only b k n = nearest_only (units b) metre k metre_pos n

-- EXACT HALVES AWAY FROM ZERO: k steps and a half go to step k + 1, on either side
pub half_away : (k c : ℕ) → 0 < c → nearest_step (100 * k * c + 50 * c) c ≡ k + 1
half_away k c h = sym (nearest_only (100 * k * c + 50 * c) c (k + 1) h (record { below = omega arith; above = omega arith; half = λ g. omega arith }))

-- ---- "the same run with the steps written out"
-- the step's word is a word of 16 bits
pub word_fits : (b : ℕ) → word_of b < 65536
unfolding word_of step_word
word_fits b = go (leb (nearest_step (units b) metre) half_width) (negative b) (leb→le (nearest_step (units b) metre) half_width)
  where
    go : (t s : Bool) → (T t → nearest_step (units b) metre ≤ half_width)
        → cond t (cond s ((65536 - nearest_step (units b) metre) % 65536) (nearest_step (units b) metre)) beyond_step < 65536
    go true true f = omega arith
    go true false f = omega (arith, f tt)
    go false s f = omega arith

-- FINITE READINGS are where the same position in steps is
pub written_out_lem : (s : List ℕ) (i : ℕ) → T (finite? (long_at s i)) → T (finite? (long_at s (i + 4)))
    → position_of (reading_at s i) ≡ word_position (word_of (long_at s i)) (word_of (long_at s (i + 4)))
unfolding coordinate_of
written_out_lem s i h g =
    λ j. record { east = coordinate_number (long_at s i) h j; north = coordinate_number (long_at s (i + 4)) g j }

-- READINGS ARE FINITE exactly where both patterns are
pub finite_readings : (s : List ℕ) (i : ℕ) → both_finite (reading_at s i) ≡ finite? (long_at s i) && finite? (long_at s (i + 4))
finite_readings s i = ap₂ ◌&&◌ (finite_number (long_at s i)) (finite_number (long_at s (i + 4)))

-- ---- EVERY PATTERN

number_value : (b : ℕ) → T (finite? b) → HasValue (number_of b) (negative b) (units b) metre
number_value b h = subst⁻¹ (λ (x : Float). HasValue x (negative b) (units b) metre) (number_finite b h) (pattern_value b h)

side_of : (s : Bool) (k : ℕ) → k ≤ half_width → from_word (step_word s k) ≡ sided s k
side_of false k h = word_east k h
side_of true k h = word_west k h

pub every_pattern : (b : ℕ) → Receives b
unfolding coordinate_of word_of
every_pattern b =
    record {
      is_finite = finite_number b;
      rounds = λ h.
          let k = nearest_step (units b) metre in
          let x : coordinate_in (number_of b) ≡ from_word (step_word (negative b) k) = coordinate_number b h in
          record {
            value = number_value b h;
            step = k;
            nearest = nearest_pattern b;
            only = nearest_pattern_only b;
            half = λ j e. ap (λ (u : ℕ). nearest_step u metre) e ∙ half_away j metre metre_pos;
            on_grid = λ l. x ∙ side_of (negative b) k l;
            off_grid = λ l. x ∙ word_off (negative b) k l;
            within = λ l. rw x (within_of (negative b) (units b) metre metre_pos (rw x at l));
          };
    }
