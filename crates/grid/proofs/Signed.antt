-- A word is a signed 16-bit number: up to 32,767 it is itself, from 32,768 on it is that many below 65,536 under zero.
-- Assumes nothing.
use mathlib.Core.Path.{◌≡◌}
use Prim.Native.Nat.{ℕ, ◌+◌, ◌-◌, ◌≤◌, ◌<◌}
use native.Mathlib.Omega.{arith}
use Rattle.limits.specs.Limits.{half_width, grid_width}
use Rattle.grid.specs.Coordinate.{from_word, to_word}

-- a word from 0 up: east or north of the grid's middle
pub positive_word : (w : ℕ) → w < 32768 → from_word w ≡ half_width + w
unfolding from_word
positive_word w h = omega arith

-- ON THE GRID exactly up to 12,000
pub positive_on_grid : (w : ℕ) → w < 32768 → (from_word w ≤ grid_width → w ≤ half_width) × (w ≤ half_width → from_word w ≤ grid_width)
positive_on_grid w h = (λ k. omega (arith, positive_word w h), λ k. omega (arith, positive_word w h))

-- ON THE GRID exactly down to -12,000
pub negative_on_grid : (w : ℕ) → 32768 ≤ w → w < 65536 → (from_word w ≤ grid_width → 65536 - w ≤ half_width) × (65536 - w ≤ half_width → from_word w ≤ grid_width)
unfolding from_word
negative_on_grid w h k = (λ g. omega arith, λ g. omega arith)

-- the word of a coordinate stands for it
pub word_of : (x : ℕ) → x < 65536 → from_word (to_word x) ≡ x
unfolding from_word to_word
word_of x h = omega arith

pub word_back : (w : ℕ) → w < 65536 → to_word (from_word w) ≡ w
unfolding from_word to_word
word_back w h = omega arith
