-- The starred legs: what is computed for each is the list that the documents have, one statement over the table,
-- computed by the checker; and the starts of two of these lists, compared.
-- Assumes nothing.
use mathlib.Core.Path.{◌≡◌, refl, sym, subst}
use mathlib.Core.List.Memᴰ
use mathlib.Core.List.{[], ◌∷◌, Memᴰ}
use Prim.Native.Nat.{◌*◌, ◌^◌, ◌≤◌, ◌<◌}
use native.Mathlib.Omega.{arith}
use Rattle.limits.specs.Limits.{max_number}
use Rattle.grid.specs.declared.Site.{Site}
use native.Mathlib.Decide.{dec_le, dec_lt}
use Rattle.grid.specs.Position.{squared_difference, distance, OnGrid}
use Rattle.grid.specs.Side.{on_the_right?}
use Rattle.grid.specs.Fraction.{gcd_by, gcd_of, lowest}
use Rattle.split.specs.SplitList.{rank, Entry, Numbered}
use Rattle.split.specs.SplitOf.{hides?, right_below?, under?, push, insert, build, split_of}
use Rattle.split.specs.Legs.{legs, tied_legs, listed, computed, longest, longest_sites, diagonal, diagonal_sites}
use Rattle.split.proofs.Exists.{split_is}
use Rattle.split.proofs.Comparisons.{starts_compared, comparison_fits}

-- THE STARRED LEGS
pub starred : computed legs ≡ listed legs
unfolding split_of build insert push hides? under? right_below? dec_le dec_lt distance squared_difference rank on_the_right? lowest gcd_of gcd_by
starred = refl

-- TIES ALONG THE WHOLE LEG
pub tied_legs_lem : computed tied_legs ≡ listed tied_legs
unfolding split_of build insert push hides? under? right_below? dec_le dec_lt distance squared_difference rank on_the_right? lowest gcd_of gcd_by
tied_legs_lem = refl

-- two sites
module _ (p q : Site) where
  either : (A : Site → Type 0) → A p → A q → (x : Site) → Memᴰ x (p ∷ q ∷ []) → A x
  either A ap aq x (Memᴰ.head e) = subst A (sym e) ap
  either A ap aq x (Memᴰ.tail (Memᴰ.head e)) = subst A (sym e) aq
  either A ap aq x (Memᴰ.tail (Memᴰ.tail m)) = absurd (Memᴰ.not-nil m)

  pair_numbered : p.number < q.number → q.number ≤ max_number → Numbered (p ∷ q ∷ [])
  pair_numbered rising most =
      record {
        small = either (λ (x : Site). x.number ≤ max_number) (omega arith) most;
        one = λ x y mx my. either (λ (x : Site). x.number ≡ y.number → x ≡ y)
            (either (λ (y : Site). p.number ≡ y.number → p ≡ y) (λ e. refl) (λ e. absurd (omega arith)) y my)
            (either (λ (y : Site). q.number ≡ y.number → q ≡ y) (λ e. absurd (omega arith)) (λ e. refl) y my)
            x mx;
      }

-- THE STARTS OF TWO OF THESE LISTS, compared: 63 bits hold both products
pub compared : (e f : Entry) → Memᴰ e (split_of longest longest_sites) → Memᴰ f (split_of diagonal diagonal_sites)
    → (e.start.num * f.start.den < 2 ^ 63) × (f.start.num * e.start.den < 2 ^ 63)
compared e f me mf =
    comparison_fits e.start f.start
    (starts_compared longest diagonal longest_sites diagonal_sites n m (omega arith) (omega arith)
    (either _ _ OnGridSite (omega arith) (omega arith))
    (either _ _ OnGridSite (omega arith) (omega arith))
    _ _ (split_is longest longest_sites n) (split_is diagonal diagonal_sites m) e f me mf)
  where
    OnGridSite : Site → Type 0
    OnGridSite p = OnGrid p.position

    n : Numbered longest_sites
    n = pair_numbered _ _ (omega arith) (omega arith)

    m : Numbered diagonal_sites
    m = pair_numbered _ _ (omega arith) (omega arith)
