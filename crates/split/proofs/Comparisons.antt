-- The products in a comparison of two starts keep within their bound.
-- Assumes nothing.
use mathlib.Core.List.{List, Memᴰ}
use Prim.Native.Nat.{◌*◌, ◌^◌, ◌≤◌, ◌<◌}
use native.Mathlib.Omega.{arith}
use Rattle.limits.specs.Limits.{max_denominator}
use Rattle.grid.specs.declared.Fraction.{Fraction}
use Rattle.grid.specs.declared.Leg.{Leg}
use Rattle.grid.specs.declared.Site.{Site}
use Rattle.grid.specs.Position.{LegOnGrid}
use Rattle.split.specs.SplitList.{Entry, IsSplitList, Numbered, SitesOnGrid}
use Rattle.split.specs.Bounds.{ComparisonFits}
use Rattle.split.proofs.Bounds.{product_most}
use Rattle.split.proofs.Denominators.{start_below, bounded}

-- what the parts of a start are at most
start_most : (l : Leg) (s : List Site) → Numbered s → LegOnGrid l → SitesOnGrid s → (es : List Entry) → IsSplitList l s es → (e : Entry) → Memᴰ e es
    → (e.start.num ≤ max_denominator) × (e.start.den ≤ max_denominator)
start_most l s numbered onLeg on_grid es h e m =
    let d : e.start.den ≤ max_denominator = bounded l s numbered onLeg on_grid es h e m in
    let n : e.start.num < e.start.den = start_below l s es h.rules e m in
    (omega arith, d)

-- ANY TWO STARTS of lists on the grid: of two legs and two sets of sites, or of the same
module _
    (l k : Leg) (s r : List Site)
    (numberedS : Numbered s) (numberedR : Numbered r)
    (onL : LegOnGrid l) (onK : LegOnGrid k)
    (onS : SitesOnGrid s) (onR : SitesOnGrid r)
  where
    pub starts_compared : (es fs : List Entry) → IsSplitList l s es → IsSplitList k r fs → (e f : Entry) → Memᴰ e es → Memᴰ f fs
        → ComparisonFits e.start f.start
    starts_compared es fs hes hfs e f me mf =
        let a : (e.start.num ≤ max_denominator) × (e.start.den ≤ max_denominator) = start_most l s numberedS onL onS es hes e me in
        let b : (f.start.num ≤ max_denominator) × (f.start.den ≤ max_denominator) = start_most k r numberedR onK onR fs hfs f mf in
        record { left = product_most max_denominator _ _ a.0 b.1; right = product_most max_denominator _ _ b.0 a.1 }

-- 63 bits hold both products
pub comparison_fits : (s t : Fraction) → ComparisonFits s t → (s.num * t.den < 2 ^ 63) × (t.num * s.den < 2 ^ 63)
comparison_fits s t h = (omega (arith, h.left), omega (arith, h.right))
