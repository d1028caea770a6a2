-- What stands at a byte of the commands, by what a reader tests; and what each finding says of the byte.
-- Assumes nothing.
use mathlib.Core.Path.{◌≡◌, refl}
use mathlib.Core.Bool.{Bool, true, false, cond}
use Rattle.std.specs.Prelude.{Option, None, Some}
use mathlib.Core.List.{List, [], ◌∷◌}
use Prim.Native.Nat.{ℕ, ◌+◌, ◌≤◌, ◌<◌}
use native.Mathlib.Omega.{arith}
use lib.ListN.{length, get_or}
use lib.Dec.{eqb, leb, ltb}
use borrow.Author.Tests.{ltb-true, ltb-false, leb-true, leb-false, le-ltb, lt-ltb, le-leb, lt-leb}
use Rattle.book.specs.declared.Command.{Command}
use Rattle.book.specs.declared.Parsed.{Parsed}
use Rattle.book.specs.declared.Parsed.TheVariants.{End, Unknown, Cut, Whole}
use Rattle.book.specs.Command.{made_at, Form, command_table, form_bytes, form_in, form_of, longest_in, command_at, parse_at}

module _ (s : List ℕ) (at : ℕ) where
  -- the end
  pub parse_end : length s ≤ at → parse_at s at ≡ End
  unfolding parse_at
  parse_end l = rw (le-leb (length s) at l) refl

  module _ (l : at < length s) where
    -- no command
    pub parse_unknown : form_of (get_or s at 0) ≡ None → parse_at s at ≡ Unknown
    unfolding parse_at
    parse_unknown e = rw (lt-leb (length s) at l, e) refl

    module _ (f : Form) (e : form_of (get_or s at 0) ≡ Some f) where
      -- a command that is cut short
      pub parse_cut : length s < at + form_bytes f → parse_at s at ≡ Cut
      unfolding parse_at
      parse_cut h = rw (lt-leb (length s) at l, e, lt-ltb (length s) (at + form_bytes f) h) refl

      -- a whole one
      pub parse_whole : at + form_bytes f ≤ length s → parse_at s at ≡ Whole (made_at f.shape f.maker s (at + 1)) (at + form_bytes f)
      unfolding parse_at
      parse_whole h = rw (lt-leb (length s) at l, e, le-ltb (length s) (at + form_bytes f) h) refl

-- what a finding says: a whole command takes at least a byte, and ends within the bytes
abbrev pub Finds : List ℕ → ℕ → Parsed → Type 0
Finds s at End = length s ≤ at
Finds s at Unknown = at < length s
Finds s at Cut = at < length s
Finds s at (Whole c next) = (at < next) × (next ≤ length s)

-- EVERY FINDING IS RIGHT
pub parse_finds : (s : List ℕ) (at : ℕ) → Finds s at (parse_at s at)
unfolding parse_at
parse_finds s at = go (leb (length s) at) refl (form_of (get_or s at 0))
  where
    here : at < length s → (f : Form) (t : Bool) → ltb (length s) (at + form_bytes f) ≡ t
        → Finds s at (cond t Cut (Whole (made_at f.shape f.maker s (at + 1)) (at + form_bytes f)))
    here l f true e = l
    here l f false e = (omega arith, omega (arith, ltb-false (length s) (at + form_bytes f) e))

    go : (t : Bool) → leb (length s) at ≡ t → (f : Option Form) → Finds s at (cond t End (command_at s at f))
    go true h f = leb-true (length s) at h
    go false h None = leb-false (length s) at h
    go false h (Some f) = here (leb-false (length s) at h) f (ltb (length s) (at + form_bytes f)) refl

-- a whole command takes at least a byte, and ends within the bytes
pub parse_next : (s : List ℕ) (at : ℕ) (c : Command) (next : ℕ) → parse_at s at ≡ Whole c next → (at < next) × (next ≤ length s)
parse_next s at c next h = rw h at (parse_finds s at)

-- the end is at the end
pub end_parse : (s : List ℕ) (at : ℕ) → parse_at s at ≡ End → length s ≤ at
end_parse s at h = rw h at (parse_finds s at)

-- an unknown command has a byte
pub unknown_parse : (s : List ℕ) (at : ℕ) → parse_at s at ≡ Unknown → at < length s
unknown_parse s at h = rw h at (parse_finds s at)

-- and so has one that is cut short
pub cut_parse : (s : List ℕ) (at : ℕ) → parse_at s at ≡ Cut → at < length s
cut_parse s at h = rw h at (parse_finds s at)

-- ---- a cut command is short

module _ (s : List ℕ) (at m : ℕ) where
  cut_in : (fs : List Form) → command_at s at (form_in fs m) ≡ Cut → length s < at + longest_in fs
  cut_in [] e = absurd (let z : ◌≡◌ {A = ℕ} 0 1 = cc in omega arith)
  cut_in (f ∷ fs) e = go (eqb m f.mark) (leb (longest_in fs) (form_bytes f)) refl (cut_in fs) e
    where
      here : (q : Bool) → ltb (length s) (at + form_bytes f) ≡ q → cond q Cut (Whole (made_at f.shape f.maker s (at + 1)) (at + form_bytes f)) ≡ Cut
          → length s < at + form_bytes f
      here true h x = ltb-true (length s) (at + form_bytes f) h
      here false h x = absurd (let z : ◌≡◌ {A = ℕ} 0 1 = cc in omega arith)

      go : (t u : Bool) → leb (longest_in fs) (form_bytes f) ≡ u → (command_at s at (form_in fs m) ≡ Cut → length s < at + longest_in fs)
          → command_at s at (cond t (Some f) (form_in fs m)) ≡ Cut → length s < at + cond u (form_bytes f) (longest_in fs)
      go true true h ih x = here (ltb (length s) (at + form_bytes f)) refl x
      go true false h ih x = omega (arith, leb-false (longest_in fs) (form_bytes f) h, here (ltb (length s) (at + form_bytes f)) refl x)
      go false true h ih x = omega (arith, leb-true (longest_in fs) (form_bytes f) h, ih x)
      go false false h ih x = ih x

-- A CUT COMMAND IS SHORTER THAN THE LONGEST
pub cut_bound : (s : List ℕ) (at : ℕ) → parse_at s at ≡ Cut → length s < at + longest_in command_table
unfolding parse_at form_of
cut_bound s at h = go (leb (length s) at) h
  where
    go : (t : Bool) → cond t End (command_at s at (form_of (get_or s at 0))) ≡ Cut → length s < at + longest_in command_table
    go true x = absurd (let z : ◌≡◌ {A = ℕ} 0 1 = cc in omega arith)
    go false x = cut_in s at (get_or s at 0) command_table x
