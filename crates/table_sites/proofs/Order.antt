-- Lines whose numbers rise.
-- Assumes nothing.
use mathlib.Core.Path.{◌≡◌, ap}
use mathlib.Core.List.{List, [], ◌∷◌}
use Prim.Native.Nat.{ℕ, zero, suc, ◌+◌, ◌≤◌, ◌<◌}
use native.Mathlib.Omega.{arith}
use lib.ListN.{length}
use Rattle.grid.specs.declared.Site.{Site}
use Rattle.book.specs.Proper.{Rising}
use Rattle.table_sites.specs.Lines.{number_of}

pub rising_tail : (q : Site) (s : List Site) → Rising (q ∷ s) → Rising s
rising_tail q [] h = tt
rising_tail q (p ∷ s) h = h.1

-- a line may stand before lines of higher numbers
pub rising_cons : (q : Site) (s : List Site) → (0 < length s → q.number < number_of s 0) → Rising s → Rising (q ∷ s)
rising_cons q [] h r = tt
rising_cons q (p ∷ s) h r = (h (omega arith), r)

-- the first number is the least
rising_first : (q : Site) (s : List Site) → Rising (q ∷ s) → (j : ℕ) → j < length s → q.number < number_of s j
rising_first q [] h j g = absurd (omega arith)
rising_first q (p ∷ s) h zero g = h.0
rising_first q (p ∷ s) h (suc j) g = omega (arith, h.0, rising_first p s h.1 j (omega arith))

-- a later line has a higher number
pub rising_at : (s : List Site) → Rising s → (i j : ℕ) → i < j → j < length s → number_of s i < number_of s j
rising_at [] r i j h g = absurd (omega arith)
rising_at (q ∷ s) r i zero h g = absurd (omega arith)
rising_at (q ∷ s) r zero (suc j) h g = rising_first q s r j (omega arith)
rising_at (q ∷ s) r (suc i) (suc j) h g = rising_at s (rising_tail q s r) i j (omega arith) (omega arith)

-- and higher by as much at least as it is later
pub rising_gap : (s : List Site) → Rising s → (i d : ℕ) → i + d < length s → number_of s i + d ≤ number_of s (i + d)
rising_gap s r i zero h = let e : i + 0 ≡ i = omega arith in omega (arith, ap (λ (j : ℕ). number_of s j) e)
rising_gap s r i (suc d) h = omega (arith, rising_gap s r i d (omega arith), rising_at s r (i + d) (i + suc d) (omega arith) h)

-- numbers rise if each is lower than the next
pub rising_of : (s : List Site) → ((i : ℕ) → suc i < length s → number_of s i < number_of s (suc i)) → Rising s
rising_of [] h = tt
rising_of (q ∷ s) h = rising_cons q s (λ g. h 0 (omega arith)) (rising_of s (λ i g. h (suc i) (omega arith)))
