-- What holds of a choice.
-- Assumes nothing.
use mathlib.Core.Path.{◌≡◌, refl}
use Rattle.split.specs.Choice.{pick}

-- What holds of x if A, and of y if not A, holds of the choice.
pub pick_case : {A B : Type 0} (P : B → Type 0) (d : Dec A) {x y : B} → (A → P x) → (¬ A → P y) → P (pick d x y)
pick_case P (yes h) f g = f h
pick_case P (no h) f g = g h

pub by_dec : {A : Type 0} → Dec A → (¬ A → ⊥) → A
by_dec (yes h) f = h
by_dec (no h) f = absurd (f h)

pub pick_yes : {A B : Type 0} (d : Dec A) (x y : B) → A → pick d x y ≡ x
pick_yes (yes h) x y k = refl
pick_yes (no h) x y k = absurd (h k)

pub pick_no : {A B : Type 0} (d : Dec A) (x y : B) → ¬ A → pick d x y ≡ y
pick_no (yes h) x y k = absurd (k h)
pick_no (no h) x y k = refl
