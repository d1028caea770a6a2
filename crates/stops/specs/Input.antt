-- The input buffer, what is kept of it and what is read behind that, and whether output was taken.
-- Assumes nothing.
use Rattle.std.specs.Prelude.{◌≡◌, Bool, true, false, List, ℕ, ◌-◌, ◌≤◌, ◌<◌, length, take, drop}
use Rattle.stops.specs.declared.Got.{Got}
use Rattle.stops.specs.declared.Got.TheVariants.{Bytes, Ended, Failed}

-- of the first `held` bytes those behind the first `used` stand at the front, and r counts them
pub record KeptInput (used held : ℕ) (s : List ℕ) (r : ℕ) (s' : List ℕ) : Type 0 where
  pub count : r ≡ held - used
  pub front : take r s' ≡ drop used (take held s)
  pub len : length s' ≡ length s

-- what a read behind the first `held` bytes of a buffer of `size` gave: where bytes came, so many are held then
abbrev pub Behind : ℕ → ℕ → Got → Type 0
Behind held size (Bytes n) = (held < n) × (n ≤ size)
Behind held size Ended = Unit {0}
Behind held size Failed = Unit {0}

-- the held bytes are as they were
pub record ReadOn (held : ℕ) (s : List ℕ) (r : Got) (s' : List ℕ) : Type 0 where
  pub behind : Behind held (length s') r
  pub front : take held s' ≡ take held s
  pub len : length s' ≡ length s

-- whether n bytes of output were taken: if not, there were some
abbrev pub TakenWhole : Bool → ℕ → Type 0
TakenWhole true n = Unit {0}
TakenWhole false n = 0 < n
