-- A leg's record against its whole list: what is left out, what is named last, what is said at a fraction.
-- Assumes nothing.
use mathlib.Core.Path.{◌≡◌, refl, sym, ap, ◌∙◌, subst}
use mathlib.Core.Logic.{◌≢◌}
use Rattle.std.specs.Prelude.{Option, None, Some}
use mathlib.Core.Bool.{Bool, true, false, cond}
use mathlib.Core.List.{List, [], ◌∷◌, ◌++◌, map, Memᴰ}
use Prim.Native.Nat.{ℕ, ◌+◌, ◌*◌, ◌≤◌}
use native.Mathlib.Decide.{dec_le}
use native.Mathlib.Omega.{arith}
use lib.ListN.{length, length-append}
use lib.Dec.{eqb}
use borrow.Author.Tests.{eqb-true}
use Rattle.grid.specs.declared.Fraction.{Fraction}
use Rattle.grid.specs.declared.Leg.{Leg}
use Rattle.grid.specs.declared.Site.{Site}
use Rattle.grid.specs.Fraction.{IsFraction, Below, NotAbove}
use Rattle.grid.proofs.Order.{below_trans}
use Rattle.split.specs.SplitList.{Entry, end_of, Stretches, IsSplitList, or_else, name_from}
use Rattle.split.specs.Choice.{pick}
use Rattle.split.proofs.Unique.{end_fraction}
use Rattle.records.specs.Decode.{Listed, listed_of}
use Rattle.book.specs.Tour.{last_number, left_out}
use Rattle.book.specs.Listener.{last_in, said_at}

-- ---- what is left out

-- the record is the end of the list: at most the first entry is left out
pub record EndOf (es whole : List Entry) : Type 0 where
  pub out : List Entry
  pub few : length out ≤ 1
  pub is : whole ≡ out ++ es

-- what holds of both records that an entry e and its followers may leave holds of the one that is left
left_case : (P : List Entry → Type 0) (n : ℕ) (e : Entry) (es : List Entry) → (e.site.number ≡ n → P es) → P (e ∷ es) → P (left_out (Some n) (e ∷ es))
left_case P n e es f g = go (eqb e.site.number n) refl
  where
    go : (c : Bool) → eqb e.site.number n ≡ c → P (cond c es (e ∷ es))
    go true h = f (eqb-true e.site.number n h)
    go false h = g

-- THE RECORD IS THE END OF THE LIST
pub left_ends : (o : Option ℕ) (es : List Entry) → EndOf (left_out o es) es
left_ends None es = record { out = []; few = omega arith; is = refl }
left_ends (Some n) [] = record { out = []; few = omega arith; is = refl }
left_ends (Some n) (e ∷ es) =
    left_case (λ (x : List Entry). EndOf x (e ∷ es)) n e es
    (λ h. record { out = e ∷ []; few = omega arith; is = refl })
    (record { out = []; few = omega arith; is = refl })

-- what is at the end of a list is in it
pub end_member : (es whole : List Entry) → EndOf es whole → (e : Entry) → Memᴰ e es → Memᴰ e whole
end_member es whole k e m = subst (λ (y : List Entry). Memᴰ e y) (sym k.is) (behind k.out)
  where
    behind : (xs : List Entry) → Memᴰ e (xs ++ es)
    behind [] = m
    behind (x ∷ xs) = Memᴰ.tail (behind xs)

-- and it is no longer
pub end_length : (es whole : List Entry) → EndOf es whole → length es ≤ length whole
end_length es whole k = let n : length whole ≡ length k.out + length es = ap length k.is ∙ length-append k.out es in omega (arith, n)

-- ---- the last entry

-- of a list and of its record
pub last_read : (o : Option ℕ) (es : List Entry) → last_in o (map listed_of es) ≡ last_number o es
last_read o [] = refl
last_read o (e ∷ es) = last_read (Some e.site.number) es

-- of entries behind each other
pub last_append : (o : Option ℕ) (es fs : List Listed) → last_in o (es ++ fs) ≡ last_in (last_in o es) fs
last_append o [] fs = refl
last_append o (e ∷ es) fs = last_append (Some e.number) es fs

-- THE LAST ENTRY HEARD is the last of the whole list, where that has an entry
pub left_last : (o : Option ℕ) (es : List Entry) → es ≢ [] → last_number o (left_out o es) ≡ last_number None es
left_last o [] h = absurd (h refl)
left_last None (e ∷ es) h = refl
left_last (Some n) (e ∷ es) h =
    left_case (λ (x : List Entry). last_number (Some n) x ≡ last_number (Some e.site.number) es) n e es
    (λ k. ap (λ (m : ℕ). last_number (Some m) es) (sym k))
    refl

-- ---- what is said at a fraction

-- of a list's entries, read back
abbrev said_of : Fraction → Option ℕ → List Entry → Option ℕ
said_of t o es = said_at t o (map listed_of es)

-- a choice whose condition is known
pick_yes : {A B : Type 0} (d : Dec A) → A → (x y : B) → pick d x y ≡ x
pick_yes (yes k) h x y = refl
pick_yes (no k) h x y = absurd (k h)

pick_no : {A B : Type 0} (d : Dec A) → ¬ A → (x y : B) → pick d x y ≡ y
pick_no (yes k) h x y = absurd (h k)
pick_no (no k) h x y = refl

-- an entry whose start is not above t is heard there
said_here : (t : Fraction) (o : Option ℕ) (e : Entry) (es : List Entry) → NotAbove e.start t → said_of t o (e ∷ es) ≡ said_of t (Some e.site.number) es
said_here t o e es h = pick_yes (dec_le (e.start.num * t.den) (t.num * e.start.den)) h _ _

-- one whose start is above t is not
said_past : (t : Fraction) (o : Option ℕ) (e : Entry) (es : List Entry) → ¬ NotAbove e.start t → said_of t o (e ∷ es) ≡ said_of t o es
said_past t o e es h = pick_no (dec_le (e.start.num * t.den) (t.num * e.start.den)) h _ _

module _ (l : Leg) (s : List Site) (t : Fraction) (ft : IsFraction t) where
  -- entries that begin after t say nothing there
  said_later : (o : Option ℕ) (es : List Entry) → Stretches l s es → Below t (end_of es) → said_of t o es ≡ o
  said_later o [] h b = refl
  said_later o (e ∷ es) h b =
      said_past t o e es (λ k. omega (arith, k, b))
      ∙ said_later o es h.1
      (below_trans t e.start (end_of es) ft.positive (end_fraction l s es h.1).positive b h.0.rises)

  -- an entry that is heard and its followers say what the list names
  said_from : (es : List Entry) (e : Entry) → Stretches l s (e ∷ es) → said_of t (Some e.site.number) es ≡ Some (name_from t e es).number
  unfolding name_from
  said_from [] e h = refl
  said_from (f ∷ fs) e h = go (dec_le (f.start.num * t.den) (t.num * f.start.den)) (said_from fs f h.1)
    where
      go : (d : Dec (f.start.num * t.den ≤ t.num * f.start.den)) → said_of t (Some f.site.number) fs ≡ Some (name_from t f fs).number
          → pick d (said_of t (Some f.site.number) fs) (said_of t (Some e.site.number) fs) ≡ Some (or_else d (name_from t f fs) e.site).number
      go (yes k) ih = ih
      go (no k) ih =
          said_later (Some e.site.number) fs h.1.1
          (below_trans t f.start (end_of fs) ft.positive (end_fraction l s fs h.1.1).positive (omega arith) h.1.0.rises)

  -- AT EVERY FRACTION the record, or else what was heard before, says what the whole list names
  pub left_said : (o : Option ℕ) (e : Entry) (es : List Entry) → IsSplitList l s (e ∷ es)
      → said_of t o (left_out o (e ∷ es)) ≡ Some (name_from t e es).number
  left_said o e es h = told o
    where
      first : NotAbove e.start t
      first = rw h.opens (omega arith)

      whole : (o : Option ℕ) → said_of t o (e ∷ es) ≡ Some (name_from t e es).number
      whole o = said_here t o e es first ∙ said_from es e h.rules

      told : (o : Option ℕ) → said_of t o (left_out o (e ∷ es)) ≡ Some (name_from t e es).number
      told None = whole None
      told (Some n) =
          left_case (λ (x : List Entry). said_of t (Some n) x ≡ Some (name_from t e es).number) n e es
          (λ k. ap (λ (m : ℕ). said_of t (Some m) es) (sym k) ∙ said_from es e h.rules)
          (whole (Some n))

-- a list over some site has an entry
pub opens_some : (l : Leg) (s : List Site) (es : List Entry) → IsSplitList l s es → length s ≢ 0 → es ≢ []
opens_some l s [] h n z = n (ap length h.opens)
opens_some l s (e ∷ es) h n z = let k : length (e ∷ es) ≡ 0 = ap length z in omega (arith, k)
