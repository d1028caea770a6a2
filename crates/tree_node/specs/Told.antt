-- What an answer says, both ways.
-- Assumes nothing.
use Rattle.std.specs.Prelude.{◌≡◌, Bool, true, false}

-- r says whether A holds, and where it does, B
pub record Told (r : Bool) (A B : Type 0) : Type 0 where
  pub yes : r ≡ true → A × B
  pub no : r ≡ false → A → ⊥
