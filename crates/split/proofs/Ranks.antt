-- The rank is the tie rule of document 02, C-11: laws about it, so that nothing else looks into it.
-- Assumes nothing.
use mathlib.Core.Path.{◌≡◌, refl}
use Prim.Native.Nat.{suc, ◌+◌, ◌≤◌}
use native.Mathlib.Omega.{arith}
use Rattle.limits.specs.Limits.{max_number}
use Rattle.grid.specs.declared.Leg.{Leg}
use Rattle.grid.specs.declared.Site.{Site}
use Rattle.grid.specs.Side.{OnTheRight, on_the_right?}
use Rattle.split.specs.SplitList.{rank_by, rank}
use Rattle.split.specs.Ties.{ComesFirst}

module _ (l : Leg) (p q : Site) (hp : p.number ≤ max_number) (hq : q.number ≤ max_number) where
  -- THE LEAST RANK COMES FIRST: "on the right .. before others; then the lower number"
  pub rank_is : (rank l p ≤ rank l q → ComesFirst l p q) × (ComesFirst l p q → rank l p ≤ rank l q)
  unfolding rank
  rank_is = go (on_the_right? l p.position) (on_the_right? l q.position)
    where
      go : (d : Dec (OnTheRight l p.position)) (f : Dec (OnTheRight l q.position))
          → (rank_by d p.number ≤ rank_by f q.number → ComesFirst l p q) × (ComesFirst l p q → rank_by d p.number ≤ rank_by f q.number)
      go (yes a) (yes b) = (λ h. record { side = λ _. a; number = λ _. omega arith }, λ c. omega (arith, c.number (λ _. b)))
      go (yes a) (no b) = (λ h. record { side = λ _. a; number = λ k. absurd (b (k a)) }, λ c. omega arith)
      go (no a) (yes b) = (λ h. absurd (omega arith), λ c. absurd (a (c.side b)))
      go (no a) (no b) =
          (λ h. record { side = λ k. absurd (b k); number = λ _. omega arith }, λ c. omega (arith, c.number (λ k. absurd (a k))))

  -- a rank is that of one number
  pub rank_number : rank l p ≡ rank l q → p.number ≡ q.number
  unfolding rank
  rank_number e = go (on_the_right? l p.position) (on_the_right? l q.position) e
    where
      go : {A B : Type 0} (d : Dec A) (f : Dec B) → rank_by d p.number ≡ rank_by f q.number → p.number ≡ q.number
      go (yes a) (yes b) e = omega arith
      go (yes a) (no b) e = absurd (omega arith)
      go (no a) (yes b) e = absurd (omega arith)
      go (no a) (no b) e = omega arith

-- on the right of the leg it is the number
pub rank_right : (l : Leg) (p : Site) → OnTheRight l p.position → p.number ≡ rank l p
unfolding rank
rank_right l p h = go (on_the_right? l p.position)
  where
    go : (d : Dec (OnTheRight l p.position)) → p.number ≡ rank_by d p.number
    go (yes a) = refl
    go (no a) = absurd (a h)

-- elsewhere it is above all of those
pub rank_elsewhere : (l : Leg) (p : Site) → ¬ OnTheRight l p.position → suc max_number + p.number ≡ rank l p
unfolding rank
rank_elsewhere l p h = go (on_the_right? l p.position)
  where
    go : (d : Dec (OnTheRight l p.position)) → suc max_number + p.number ≡ rank_by d p.number
    go (yes a) = absurd (h a)
    go (no a) = refl
