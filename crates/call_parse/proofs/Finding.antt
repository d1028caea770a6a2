-- What a reader of the commands finds, by what it tests: one law for each return.
-- Assumes nothing.
use mathlib.Core.Path.{◌≡◌, refl, sym, ap, ◌∙◌}
use mathlib.Core.Logic.{◌≢◌}
use Rattle.std.specs.Prelude.{Option, None, Some, option_map}
use mathlib.Core.List.{List}
use Prim.Native.Nat.{ℕ, ◌+◌, ◌-◌, ◌≤◌, ◌<◌}
use native.Mathlib.Omega.{arith}
use lib.ListN.{length, get_or}
use borrow.Author.Tests.{ne_eqb}
use Rattle.words.specs.Words.{word_at}
use Rattle.grid.specs.declared.Position.{Position}
use Rattle.grid.specs.declared.Leg.{Leg}
use Rattle.grid.specs.Coordinate.{from_word}
use Rattle.book.specs.declared.Command.{Command}
use Rattle.book.specs.declared.Shape.{Shape}
use Rattle.book.specs.declared.Parsed.TheVariants.{End, Unknown, Cut, Whole}
use Rattle.book.specs.Command.{Form as TableRow, operand_bytes, position_at, leg_at, made_at, form_of, parse_at}
use Rattle.book.proofs.Parsing.{parse_end, parse_unknown, parse_cut, parse_whole}
use Rattle.call_parse.specs.declared.Form.{Form}
use Rattle.call_parse.specs.Rows.{row_of}

-- ---- operands

-- a position, read word by word
pub position_is : (s : List ℕ) (i e n x y : ℕ) → x ≡ word_at s i → y ≡ word_at s (i + 2) → e ≡ from_word x → n ≡ from_word y
    → ◌≡◌ {A = Position} (record { east = e; north = n }) (position_at s i)
position_is s i e n x y hx hy he hn = rw (he, hn, hx, hy)

-- a leg, position by position
pub leg_is : (s : List ℕ) (i : ℕ) (p q : Position) → p ≡ position_at s i → q ≡ position_at s (i + 4)
    → ◌≡◌ {A = Leg} (record { s = p; e = q }) (leg_at s i)
leg_is s i p q hp hq = λ j. record { s = hp j; e = hq j }

-- ---- the table of commands

-- no other mark is a command's
pub no_row : (m : ℕ) → m ≢ 0x41 → m ≢ 0x44 → m ≢ 0x4D → m ≢ 0x4C → m ≢ 0x53 → m ≢ 0x50 → m ≢ 0x42 → m ≢ 0x43 → m ≢ 0x61 → m ≢ 0x6D
    → ◌≡◌ {A = Option TableRow} None (form_of m)
unfolding form_of
no_row m a b c d e f g h i j =
    rw (ne_eqb m 0x41 a, ne_eqb m 0x44 b, ne_eqb m 0x4D c, ne_eqb m 0x4C d, ne_eqb m 0x53 e, ne_eqb m 0x50 f, ne_eqb m 0x42 g, ne_eqb m 0x43 h, ne_eqb m 0x61 i, ne_eqb m 0x6D j) refl

-- ---- what stands at a byte

pub end_is : (s : List ℕ) (at : ℕ) → length s ≤ at → End ≡ parse_at s at
end_is s at l = sym (parse_end s at l)

module _ (s : List ℕ) (at : ℕ) (l : at < length s) (k : Option Form) (h : option_map row_of k ≡ form_of (get_or s at 0)) where
  pub unknown_is : k ≡ None → Unknown ≡ parse_at s at
  unknown_is u = sym (parse_unknown s at l (sym h ∙ ap (option_map row_of) u))

  module _ (f : Form) (e : k ≡ Some f) (x : Shape) (y : x ≡ (row_of f).shape) (n : ℕ) (w : n ≡ operand_bytes x) where
    b : n ≡ operand_bytes (row_of f).shape
    b = w ∙ ap operand_bytes y

    found : form_of (get_or s at 0) ≡ Some (row_of f)
    found = sym h ∙ ap (option_map row_of) e

    pub cut_is : length s - (at + 1) < n → Cut ≡ parse_at s at
    cut_is u = let v = b in sym (parse_cut s at l (row_of f) found (omega arith))

    pub whole_is : n ≤ length s - (at + 1) → (c : Command) → c ≡ made_at (row_of f).shape (row_of f).maker s (at + 1)
        → Whole c (at + 1 + n) ≡ parse_at s at
    whole_is u c m =
        let v = b in
        let z : at + (1 + operand_bytes (row_of f).shape) ≡ at + 1 + n = omega arith in
        sym (parse_whole s at l (row_of f) found (omega arith) ∙ (λ j. Whole (sym m j) (z j)))
