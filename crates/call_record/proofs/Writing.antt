-- Bytes written into a buffer: one part after another, and what is left of the buffer.
-- Assumes nothing.
use mathlib.Core.Path.{◌≡◌, ap, sym, ◌∙◌}
use mathlib.Core.List.{List}
use Prim.Native.Nat.{ℕ, ◌+◌, ◌/◌, ◌%◌, ◌<◌}
use native.Mathlib.Omega.{arith}
use native.Mathlib.Nat.{mod-eq_of_lt}
use lib.ListN.{set}
use Rattle.words.specs.Words.{put_word}
use Rattle.records.specs.Bytes.{bytes2, bytes4, write}
use Rattle.book.specs.declared.Cause.{Cause}
use Rattle.book.specs.Numbers.{cause_number}
use Rattle.book.specs.Reply.{refused, record_of}

-- What `put_word` and `put_long` do.
pub put_word_is : (b b' : List ℕ) (i x : ℕ) → x < 65536 → b' ≡ put_word b i x → b' ≡ write b i (bytes2 x)
unfolding put_word
put_word_is b b' i x h e =
    let g : x / 256 ≡ x / 256 % 256 = sym (mod-eq_of_lt (omega arith)) in
    e ∙ ap (λ (y : ℕ). set (set b i (x % 256)) (i + 1) y) g

pub put_long_is : (b : List ℕ) (i x p q r s : ℕ) → p ≡ x % 256 → q ≡ x / 256 % 256 → r ≡ x / 65536 % 256 → s ≡ x / 16777216 % 256
    → set (set (set (set b i p) (i + 1) q) (i + 2) r) (i + 3) s ≡ write b i (bytes4 x)
put_long_is b i x p q r s e f g h =
    let third : i + 2 ≡ i + 1 + 1 = omega arith in
    let fourth : i + 3 ≡ i + 1 + 1 + 1 = omega arith in
    λ j. set (set (set (set b i (e j)) (i + 1) (f j)) (third j) (g j)) (fourth j) (h j)

-- The return of `put_refusal`.
pub refusal_is : (x : Cause) (b : List ℕ) (i n : ℕ) → n ≡ cause_number x → set (set b i 0x21) (i + 1) n ≡ write b i (record_of (refused x))
refusal_is x b i n e = ap (λ (y : ℕ). set (set b i 0x21) (i + 1) y) e
