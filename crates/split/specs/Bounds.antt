-- What the grid bounds. Document 02, C-12: "Each promise on a squared distance, a dot product or a comparison of
-- fractions changes with it." proofs/Bounds.antt shows them, and has them as numbers.
-- Assumes nothing.
use Rattle.std.specs.Prelude.{◌+◌, ◌*◌, ◌≤◌}
use Rattle.limits.specs.Limits.{max_distance, max_denominator, max_comparison}
use Rattle.grid.specs.declared.Site.{Site}
use Rattle.grid.specs.declared.Leg.{Leg}
use Rattle.grid.specs.declared.Fraction.{Fraction}
use Rattle.grid.specs.Position.{distance}
use Rattle.split.specs.DotProduct.{plus, minus}

-- of a site and a leg: both squared distances, and B = 2 × ((p - S) · (E - S)) above 0 and below it
pub record Bounded (l : Leg) (p : Site) : Type 0 where
  pub from_s : distance p.position l.s ≤ max_distance
  pub from_e : distance p.position l.e ≤ max_distance
  pub dot_above : plus l p ≤ minus l p + max_denominator
  pub dot_below : minus l p ≤ plus l p + max_denominator

-- of two starts: both products that are compared
pub record ComparisonFits (s t : Fraction) : Type 0 where
  pub left : s.num * t.den ≤ max_comparison
  pub right : t.num * s.den ≤ max_comparison
