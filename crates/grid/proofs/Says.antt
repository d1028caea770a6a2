-- What a yes or a no says, taken from the answer.
-- Assumes nothing.
use mathlib.Core.Path.{◌≡◌, sym}
use mathlib.Core.Bool.{Bool, true, false, true≢false}
use Rattle.grid.specs.Says.{Says}

pub says_yes : {A : Type 0} (q : Bool) → Says q A → q ≡ true → A
says_yes true s e = s
says_yes false s e = absurd (true≢false (sym e))

pub says_no : {A : Type 0} (q : Bool) → Says q A → q ≡ false → ¬ A
says_no true s e = absurd (true≢false e)
says_no false s e = s

-- the same answer to a question of the same meaning
pub says_map : {A B : Type 0} (q : Bool) → (A → B) → (B → A) → Says q A → Says q B
says_map true f g s = f s
says_map false f g s = λ b. s (g b)
