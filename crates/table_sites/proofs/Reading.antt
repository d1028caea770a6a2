-- What is read in the records, and that the lines are just that.
-- Assumes nothing.
use mathlib.Core.Path.{◌≡◌, refl, ap, ◌∙◌}
use mathlib.Core.List.{List}
use Prim.Native.Nat.{ℕ, zero, suc, ◌+◌, ◌<◌}
use native.Mathlib.Omega.{arith}
use lib.ListN.{length, get_or}
use lib.Seq.{ext_get_or}
use Rattle.words.specs.Words.{word_at}
use Rattle.grid.specs.declared.Site.{Site}
use Rattle.list_row.specs.Places.{site_at_byte}
use Rattle.table_header.specs.Header.{count_in}
use Rattle.table_sites.specs.Layout.{record_start, east_offset, north_offset}
use Rattle.table_sites.specs.Lines.{line_at, lines_from, lines_in, no_site}

-- a site is its three words
pub site_is : (t : List ℕ) (i n e o : ℕ) → n ≡ word_at t i → e ≡ word_at t (i + east_offset) → o ≡ word_at t (i + north_offset)
    → ◌≡◌ {A = Site} (record { number = n; position = record { east = e; north = o } }) (site_at_byte t i)
unfolding site_at_byte
site_is t i n e o hn he ho = λ j. record { number = hn j; position = record { east = he j; north = ho j } }

pub site_same : (t u : List ℕ) (i j : ℕ) → word_at u j ≡ word_at t i → word_at u (j + east_offset) ≡ word_at t (i + east_offset)
    → word_at u (j + north_offset) ≡ word_at t (i + north_offset) → site_at_byte u j ≡ site_at_byte t i
unfolding site_at_byte
site_same t u i j hn he ho = site_is t i (word_at u j) (word_at u (j + east_offset)) (word_at u (j + north_offset)) hn he ho

from_length : (b : List ℕ) (k n : ℕ) → length (lines_from b k n) ≡ n
unfolding lines_from
from_length b k zero = refl
from_length b k (suc n) = ap suc (from_length b (suc k) n)

from_at : (b : List ℕ) (k n i : ℕ) (d : Site) → i < n → get_or (lines_from b k n) i d ≡ line_at b (k + i)
unfolding lines_from
from_at b k zero i d h = absurd (omega arith)
from_at b k (suc n) zero d h = let e : k ≡ k + 0 = omega arith in ap (λ (j : ℕ). line_at b j) e
from_at b k (suc n) (suc i) d h =
    let e : suc k + i ≡ k + suc i = omega arith in
    from_at b (suc k) n i d (omega arith) ∙ ap (λ (j : ℕ). line_at b j) e

-- there are as many lines as the count says
pub lines_length : (b : List ℕ) → length (lines_in b) ≡ count_in b
unfolding lines_in
lines_length b = from_length b 0 (count_in b)

-- line k is record k
pub line_at_lem : (b : List ℕ) (k : ℕ) (d : Site) → k < count_in b → get_or (lines_in b) k d ≡ line_at b k
unfolding lines_in
line_at_lem b k d h =
    let e : 0 + k ≡ k = omega arith in
    from_at b 0 (count_in b) k d h ∙ ap (λ (j : ℕ). line_at b j) e

pub number_at_lem : (b : List ℕ) (k : ℕ) → k < count_in b → (get_or (lines_in b) k no_site).number ≡ word_at b (record_start k)
unfolding site_at_byte
number_at_lem b k h = ap (λ (p : Site). p.number) (line_at_lem b k no_site h)

-- the lines are these, if each record is
pub lines_are : (b : List ℕ) (s : List Site) → count_in b ≡ length s → ((k : ℕ) → k < length s → line_at b k ≡ get_or s k no_site) → lines_in b ≡ s
lines_are b s e h =
    ext_get_or no_site (lines_in b) s (lines_length b ∙ e)
    (λ k g. line_at_lem b k no_site (omega (arith, lines_length b)) ∙ h k (omega (arith, lines_length b)))
