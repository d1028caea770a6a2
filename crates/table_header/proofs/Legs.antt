-- The standing leg: what is read, and what is stored.
-- Assumes nothing.
use mathlib.Core.Path.{◌≡◌, refl, sym, ap, ◌∙◌}
use mathlib.Core.List.{List}
use Rattle.std.specs.Prelude.{None, Some}
use Prim.Native.Nat.{ℕ, ◌+◌, ◌≤◌}
use native.Mathlib.Omega.{arith}
use lib.ListN.{length}
use borrow.Author.Tests.{eq-eqb, ne_eqb}
use Rattle.limits.specs.Limits.{table_bytes}
use Rattle.words.specs.Words.{word_at, put_word, Only}
use Rattle.words.proofs.Frame.{only_trans, only_wider, only_put_word, word_put_word, word_low}
use Rattle.grid.specs.declared.Position.{Position}
use Rattle.grid.specs.declared.Leg.{Leg}
use Rattle.table_header.specs.Layout.{flag_start, leg_start}
use Rattle.table_header.specs.Header.{position_words, put_position, leg_in, LegStored}

pub position_is : (b : List ℕ) (i e n : ℕ) → e ≡ word_at b i → n ≡ word_at b (i + 2) → ◌≡◌ {A = Position} (record { east = e; north = n }) (position_words b i)
unfolding position_words
position_is b i e n he hn = λ j. record { east = he j; north = hn j }

pub unset_is : (b : List ℕ) (f : ℕ) → f ≡ word_at b flag_start → f ≡ 0 → None ≡ leg_in b
unfolding leg_in
unset_is b f h z = rw (eq-eqb (word_at b flag_start) 0 (sym h ∙ z)) refl

pub along_is : (b : List ℕ) (f : ℕ) (p q : Position) → f ≡ word_at b flag_start → (f ≡ 0 → ⊥) → p ≡ position_words b leg_start → q ≡ position_words b (leg_start + 4)
    → Some (record { s = p; e = q }) ≡ leg_in b
unfolding leg_in
along_is b f p q h nz hp hq = rw (ne_eqb (word_at b flag_start) 0 (λ e. nz (h ∙ e))) (λ j. Some (record { s = hp j; e = hq j }))

pub position_stored : (p : Position) (b b₁ b₂ : List ℕ) (i : ℕ) → b₁ ≡ put_word b i p.east → b₂ ≡ put_word b₁ (i + 2) p.north → b₂ ≡ put_position b i p
unfolding put_position
position_stored p b b₁ b₂ i e₁ e₂ = e₂ ∙ ap (λ (x : List ℕ). put_word x (i + 2) p.north) e₁

-- a stored position
pub only_position : (b : List ℕ) (i : ℕ) (p : Position) → Only i (i + 4) b (put_position b i p)
unfolding put_position
only_position b i p =
    only_trans (only_wider (omega arith) (omega arith) (only_put_word b i p.east))
    (only_wider (omega arith) (omega arith) (only_put_word (put_word b i p.east) (i + 2) p.north))

pub position_put : (b : List ℕ) (i : ℕ) (p : Position) → i + 4 ≤ length b → position_words (put_position b i p) i ≡ p
unfolding put_position position_words
position_put b i p h =
    let o = only_put_word b i p.east in
    λ j.
    record {
      east = (word_low (only_put_word (put_word b i p.east) (i + 2) p.north) i (omega arith) ∙ word_put_word b i p.east (omega arith)) j;
      north = word_put_word (put_word b i p.east) (i + 2) p.north (omega (arith, o.len)) j;
    }

pub position_low : {lo hi : ℕ} {b b' : List ℕ} → Only lo hi b b' → (i : ℕ) → i + 4 ≤ lo → position_words b' i ≡ position_words b i
unfolding position_words
position_low o i h = λ j. record { east = word_low o i (omega arith) j; north = word_low o (i + 2) (omega arith) j }

-- THE STORED LEG is the standing leg
pub leg_stored : (l : Leg) (b b₁ b₂ b₃ : List ℕ) → length b ≡ table_bytes → b₁ ≡ put_word b flag_start 1 → b₂ ≡ put_position b₁ leg_start l.s
    → b₃ ≡ put_position b₂ (leg_start + 4) l.e → LegStored l b b₃
unfolding leg_in
leg_stored l b b₁ b₂ b₃ len e₁ e₂ e₃ =
    record {
      leg = rw (ne_eqb (word_at b₃ flag_start) 0 (λ e. omega (arith, flag))) (λ i. Some (record { s = from i; e = to i }));
      flag = flag;
      only = only_trans (only_wider (omega arith) (omega arith) o₁) (only_trans (only_wider (omega arith) (omega arith) o₂) (only_wider (omega arith) (omega arith) o₃));
    }
  where
    o₁ : Only flag_start (flag_start + 2) b b₁
    o₁ = rw e₁ (only_put_word b flag_start 1)

    o₂ : Only leg_start (leg_start + 4) b₁ b₂
    o₂ = rw e₂ (only_position b₁ leg_start l.s)

    o₃ : Only (leg_start + 4) (leg_start + 8) b₂ b₃
    o₃ = rw e₃ (only_position b₂ (leg_start + 4) l.e)

    flag : word_at b₃ flag_start ≡ 1
    flag =
        word_low o₃ flag_start (omega arith) ∙ word_low o₂ flag_start (omega arith) ∙ ap (λ (x : List ℕ). word_at x flag_start) e₁
        ∙ word_put_word b flag_start 1 (omega arith)

    from : position_words b₃ leg_start ≡ l.s
    from = position_low o₃ leg_start (omega arith) ∙ ap (λ (x : List ℕ). position_words x leg_start) e₂ ∙ position_put b₁ leg_start l.s (omega (arith, o₁.len))

    to : position_words b₃ (leg_start + 4) ≡ l.e
    to = ap (λ (x : List ℕ). position_words x (leg_start + 4)) e₃ ∙ position_put b₂ (leg_start + 4) l.e (omega (arith, o₁.len, o₂.len))
