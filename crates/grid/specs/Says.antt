-- What a function's yes or no says.
-- Assumes nothing.
use Rattle.std.specs.Prelude.{Bool, true, false}

-- the answer is yes exactly when P holds
abbrev pub Says : Bool → Type 0 → Type 0
Says true P = P
Says false P = ¬ P

-- if the answer is yes, P holds; a no says nothing
abbrev pub If : Bool → Type 0 → Type 0
If true P = P
If false P = Unit {0}
