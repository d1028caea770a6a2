-- Steps written out: the coordinate of a step's word, and how far a reading lies from it.
-- Assumes nothing.
use Rattle.std.proofs.Common.{◌≡◌, ℕ, ◌+◌, ◌-◌, ◌*◌, ◌%◌, ◌<◌, ◌≤◌, Bool, true, false, cond, not, T, leb, sym, refl, ap, ◌∙◌, arith, lit<, leb→le}
use native.Mathlib.Decide.{dec_le}
use lib.Dec.{nleb→lt}
use Rattle.limits.specs.Limits.{half_width, grid_width}
use Rattle.grid.specs.Coordinate.{from_word}
use Rattle.readings.specs.Reading.{Nearest, nearest_step, beyond_step, kept, step_word, Within}
use Rattle.readings.proofs.Rounding.{nearest_is}

-- ---- the nearest step, kept to the grid
pub kept_on : (k : ℕ) → k ≤ half_width → kept k ≡ k
unfolding kept
kept_on k h = go (leb k half_width) (nleb→lt k half_width)
  where
    go : (b : Bool) → (T (not b) → half_width < k) → cond b k beyond_step ≡ k
    go true f = refl
    go false f = absurd (omega (arith, f tt))

pub kept_off : (k : ℕ) → half_width < k → kept k ≡ beyond_step
unfolding kept
kept_off k h = go (leb k half_width) (leb→le k half_width)
  where
    go : (b : Bool) → (T b → k ≤ half_width) → cond b k beyond_step ≡ beyond_step
    go true f = absurd (omega (arith, f tt))
    go false f = refl

pub kept_most : (k : ℕ) → kept k ≤ beyond_step
unfolding kept
kept_most k = go (leb k half_width) (leb→le k half_width)
  where
    go : (b : Bool) → (T b → k ≤ half_width) → cond b k beyond_step ≤ beyond_step
    go true f = omega (arith, f tt)
    go false f = omega arith

-- the coordinates of a step's word
pub east_of : (k : ℕ) → half_width + kept k ≡ from_word (step_word false k)
unfolding kept step_word from_word
east_of k = go (leb k half_width) (leb→le k half_width)
  where
    go : (b : Bool) → (T b → k ≤ half_width) → half_width + cond b k beyond_step ≡ (cond b k beyond_step + half_width) % 65536
    go true f = omega (arith, f tt)
    go false f = omega arith

pub west_of : (k : ℕ) → kept k ≤ half_width → half_width - kept k ≡ from_word (step_word true k)
unfolding kept step_word from_word
west_of k h = go (leb k half_width) (leb→le k half_width) h
  where
    go : (b : Bool) → (T b → k ≤ half_width) → cond b k beyond_step ≤ half_width → half_width - cond b k beyond_step ≡ (cond b ((65536 - k) % 65536) beyond_step + half_width) % 65536
    go true f g = omega (arith, f tt)
    go false f g = omega arith

pub west_off : (k : ℕ) → half_width < kept k → half_width + kept k ≡ from_word (step_word true k)
unfolding kept step_word from_word
west_off k h = go (leb k half_width) (leb→le k half_width) h
  where
    go : (b : Bool) → (T b → k ≤ half_width) → half_width < cond b k beyond_step → half_width + cond b k beyond_step ≡ (cond b ((65536 - k) % 65536) beyond_step + half_width) % 65536
    go true f g = absurd (omega (arith, f tt))
    go false f g = omega arith

pub word_zero : (s : Bool) → from_word (step_word s 0) ≡ half_width
unfolding step_word from_word
word_zero true = refl
word_zero false = refl

-- ---- the same without `kept`
pub word_east : (k : ℕ) → k ≤ half_width → from_word (step_word false k) ≡ half_width + k
word_east k h = sym (east_of k) ∙ ap (λ (y : ℕ). half_width + y) (kept_on k h)

pub word_west : (k : ℕ) → k ≤ half_width → from_word (step_word true k) ≡ half_width - k
word_west k h = let e = kept_on k h in sym (west_of k (omega arith)) ∙ ap (λ (y : ℕ). half_width - y) e

pub word_off : (s : Bool) (k : ℕ) → half_width < k → from_word (step_word s k) ≡ from_word beyond_step
unfolding step_word
word_off s k h = go (leb k half_width) (leb→le k half_width)
  where
    go : (b : Bool) → (T b → k ≤ half_width) → from_word (cond b (cond s ((65536 - k) % 65536) k) beyond_step) ≡ from_word beyond_step
    go true f = absurd (omega (arith, f tt))
    go false f = refl

pub off_far : grid_width < from_word beyond_step
unfolding from_word
off_far = lit< tt

-- "The grid limit is tested on the step": the coordinate is on the grid exactly where the step is
pub on_grid : (s : Bool) (k : ℕ) → from_word (step_word s k) ≤ grid_width → k ≤ half_width
on_grid s k h = go (dec_le k half_width)
  where
    go : Dec (k ≤ half_width) → k ≤ half_width
    go (yes l) = l
    go (no f) = absurd (omega (arith, word_off s k (omega arith), off_far))

pub step_on_grid : (s : Bool) (k : ℕ) → k ≤ half_width → from_word (step_word s k) ≤ grid_width
step_on_grid true k h = omega (arith, word_west k h)
step_on_grid false k h = omega (arith, word_east k h)

-- WITHIN 50 M, EXACTLY
near_east : (a c k : ℕ) → Nearest a c k → Within false a c (half_width + k)
near_east a c k n = (omega (arith, n.below), omega (arith, n.above))

near_west : (a c k x : ℕ) → x + k ≡ half_width → Nearest a c k → Within true a c x
near_west a c k x e n =
    let m = ap (λ (y : ℕ). y * c) e in
    (omega (arith, n.above), omega (arith, n.below))

pub within_of : (s : Bool) (a c : ℕ) → 0 < c → from_word (step_word s (nearest_step a c)) ≤ grid_width → Within s a c (from_word (step_word s (nearest_step a c)))
within_of false a c C h =
    let l = on_grid false (nearest_step a c) h in
    rw (word_east (nearest_step a c) l) (near_east a c (nearest_step a c) (nearest_is a c C))
within_of true a c C h =
    let l = on_grid true (nearest_step a c) h in
    rw (word_west (nearest_step a c) l) (near_west a c (nearest_step a c) (half_width - nearest_step a c) (omega arith) (nearest_is a c C))
