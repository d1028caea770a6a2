-- The tour: what is read, and what is stored.
-- Assumes nothing.
use mathlib.Core.Path.{◌≡◌, refl, sym, ap, subst, ◌∙◌}
use mathlib.Core.List.{List}
use Rattle.std.specs.Prelude.{Option, None, Some, IfSome, unwrap_or, ◌<◌}
use Prim.Native.Nat.{ℕ, ◌+◌}
use native.Mathlib.Omega.{arith}
use lib.ListN.{length}
use borrow.Author.Tests.{eq-eqb, ne_eqb}
use Rattle.limits.specs.Limits.{table_bytes}
use Rattle.words.specs.Words.{word_at, put_word, Only}
use Rattle.words.proofs.Frame.{only_trans, only_wider, only_put_word, word_put_word, word_low}
use Rattle.grid.specs.declared.Position.{Position}
use Rattle.book.specs.declared.Tour.{Tour}
use Rattle.table_header.specs.Layout.{tour_start, corner_start, last_start, tour_end}
use Rattle.table_header.specs.Header.{position_words, put_position, site_number, tour_at, tour_in, stored_as, put_tour, TourStored}
use Rattle.table_header.proofs.Zeros.{zero_word, zero_both}
use Rattle.table_header.proofs.Legs.{only_position, position_put, position_low}

pub idle_is : (b : List ℕ) (f : ℕ) → f ≡ word_at b tour_start → f ≡ 0 → None ≡ tour_in b
unfolding tour_in
idle_is b f h z = rw (eq-eqb (word_at b tour_start) 0 (sym h ∙ z)) refl

pub from_is : (b : List ℕ) (f : ℕ) (p : Position) (n : ℕ) (o : Option ℕ) → f ≡ word_at b tour_start → (f ≡ 0 → ⊥) → p ≡ position_words b corner_start
    → n ≡ word_at b last_start → o ≡ site_number n → Some (record { corner = p; last = o }) ≡ tour_in b
unfolding tour_in
from_is b f p n o h nz hp hn ho =
    rw (ne_eqb (word_at b tour_start) 0 (λ e. nz (h ∙ e))) (λ j. Some (record { corner = hp j; last = (ho ∙ ap site_number hn) j }))

-- a number that is no 0 is read as it is stored
numbered : (o : Option ℕ) → IfSome o (λ n. 0 < n) → site_number (unwrap_or o 0) ≡ o
numbered None h = refl
numbered (Some n) h = rw (ne_eqb n 0 (λ z. omega (arith, h, z))) refl

-- so a tour that remembers no 0 is stored as it is
pub stored_told : (o : Option Tour) → IfSome o (λ k. IfSome k.last (λ n. 0 < n)) → stored_as o ≡ o
stored_told None h = refl
stored_told (Some k) h = λ i. Some (record { corner = k.corner; last = numbered k.last h i })

pub tour_put : (b b₁ b₂ b₃ : List ℕ) (f : ℕ) (p : Position) (n : ℕ) → b₁ ≡ put_word b tour_start f → b₂ ≡ put_position b₁ corner_start p → b₃ ≡ put_word b₂ last_start n
    → b₃ ≡ put_tour b f p n
unfolding put_tour
tour_put b b₁ b₂ b₃ f p n e₁ e₂ e₃ = e₃ ∙ (λ i. put_word ((e₂ ∙ ap (λ (x : List ℕ). put_position x corner_start p) e₁) i) last_start n)

module _ (b : List ℕ) (f : ℕ) (p : Position) (n : ℕ) (len : length b ≡ table_bytes) where
  b₁ : List ℕ
  b₁ = put_word b tour_start f

  b₂ : List ℕ
  b₂ = put_position b₁ corner_start p

  b₃ : List ℕ
  b₃ = put_word b₂ last_start n

  o₁ : Only tour_start (tour_start + 2) b b₁
  unfolding b₁
  o₁ = only_put_word b tour_start f

  o₂ : Only corner_start (corner_start + 4) b₁ b₂
  unfolding b₂
  o₂ = only_position b₁ corner_start p

  o₃ : Only last_start (last_start + 2) b₂ b₃
  unfolding b₃
  o₃ = only_put_word b₂ last_start n

  -- nothing else is changed
  put_only : Only tour_start tour_end b (put_tour b f p n)
  unfolding put_tour b₁ b₂ b₃
  put_only = only_trans (only_wider (omega arith) (omega arith) o₁) (only_trans (only_wider (omega arith) (omega arith) o₂) (only_wider (omega arith) (omega arith) o₃))

  put_flag : word_at (put_tour b f p n) tour_start ≡ f
  unfolding put_tour b₁ b₂ b₃
  put_flag = word_low o₃ tour_start (omega arith) ∙ word_low o₂ tour_start (omega arith) ∙ word_put_word b tour_start f (omega arith)

  put_corner : position_words (put_tour b f p n) corner_start ≡ p
  unfolding put_tour b₁ b₂ b₃
  put_corner = position_low o₃ corner_start (omega arith) ∙ position_put b₁ corner_start p (omega (arith, o₁.len))

  put_last : word_at (put_tour b f p n) last_start ≡ n
  unfolding put_tour b₁ b₂ b₃
  put_last = word_put_word b₂ last_start n (omega (arith, o₁.len, o₂.len))

-- THE TOUR STORED is the tour under way
pub tour_stored : (b b' : List ℕ) (o : Option Tour) (k : Tour) (f n : ℕ) → length b ≡ table_bytes → o ≡ Some k
    → n ≡ unwrap_or k.last 0 → b' ≡ put_tour b f k.corner n → f ≡ 1 → TourStored (stored_as o) b b'
unfolding tour_in
tour_stored b b' o k f n len is q e one =
    rw (e, one, is, sym q)
    (record {
      tour = rw (ne_eqb (word_at (put_tour b 1 k.corner n) tour_start) 0 (λ z. omega (arith, put_flag b 1 k.corner n len)))
          (λ i. Some (tour_at (put_corner b 1 k.corner n len i) (put_last b 1 k.corner n len i)));
      layout = record { flag = omega (arith, put_flag b 1 k.corner n len); unset = λ z. absurd (omega (arith, put_flag b 1 k.corner n len)) };
      only = put_only b 1 k.corner n len;
    })

-- A TOUR ENDED leaves zeros
pub tour_ended : (b b' : List ℕ) (o : Option Tour) (p : Position) → length b ≡ table_bytes → o ≡ None → p.east ≡ 0 → p.north ≡ 0 → b' ≡ put_tour b 0 p 0
    → TourStored (stored_as o) b b'
unfolding tour_in position_words
tour_ended b b' o p len is pe pn e =
    rw (e, is)
    (record {
      tour = rw (eq-eqb (word_at (put_tour b 0 p 0) tour_start) 0 (put_flag b 0 p 0 len)) refl;
      layout = record {
        flag = omega (arith, put_flag b 0 p 0 len);
        unset = λ z.
            zero_both (put_tour b 0 p 0) corner_start (corner_start + 2) tour_end (zero_word (put_tour b 0 p 0) corner_start (ap (λ (x : Position). x.east) corner ∙ pe))
            (zero_both (put_tour b 0 p 0) (corner_start + 2) last_start tour_end (zero_word (put_tour b 0 p 0) (corner_start + 2) (ap (λ (x : Position). x.north) corner ∙ pn))
            (zero_word (put_tour b 0 p 0) last_start (put_last b 0 p 0 len)));
      };
      only = put_only b 0 p 0 len;
    })
  where
    corner : position_words (put_tour b 0 p 0) corner_start ≡ p
    corner = put_corner b 0 p 0 len
