-- The returns of `rank` and `comes_first`.
-- Assumes nothing.
use mathlib.Core.Path.{◌≡◌, refl, ap}
use mathlib.Core.Bool.{Bool, true, false}
use Prim.Native.Nat.{ℕ, suc, ◌+◌, ◌≤◌}
use native.Mathlib.Omega.{arith}
use lib.Dec.{leb}
use borrow.Author.Tests.{leb-true, leb-false}
use Rattle.limits.specs.Limits.{max_number}
use Rattle.grid.specs.declared.Leg.{Leg}
use Rattle.grid.specs.declared.Site.{Site}
use Rattle.grid.specs.Says.{Says}
use Rattle.grid.specs.Side.{OnTheRight}
use Rattle.grid.proofs.Says.{says_yes, says_no}
use Rattle.split.specs.SplitList.{rank}
use Rattle.split.proofs.Ranks.{rank_right, rank_elsewhere}

pub ranked_right : (l : Leg) (p : Site) (b : Bool) → Says b (OnTheRight l p.position) → b ≡ true → p.number ≡ rank l p
ranked_right l p b s e = rank_right l p (says_yes b s e)

pub ranked_elsewhere : (l : Leg) (p : Site) (b : Bool) → Says b (OnTheRight l p.position) → b ≡ false → suc max_number + p.number ≡ rank l p
ranked_elsewhere l p b s e = rank_elsewhere l p (says_no b s e)

-- two sites, and their ranks in hand
module _ (l : Leg) (p q x y : Site) (m n : ℕ) (hp : x ≡ p) (hq : y ≡ q) (hm : m ≡ rank l x) (hn : n ≡ rank l y) where
  pub first_said : Says (leb m n) (rank l p ≤ rank l q)
  first_said = by (leb m n) refl
    where
      by : (b : Bool) → leb m n ≡ b → Says b (rank l p ≤ rank l q)
      by true e = omega (arith, leb-true m n e, ap (rank l) hp, ap (rank l) hq)
      by false e = λ k. omega (arith, leb-false m n e, ap (rank l) hp, ap (rank l) hq)
