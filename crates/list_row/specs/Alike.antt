-- That a row holds a hull has one proof at most: what `Row` asks of its field.
-- Assumes nothing.
use Rattle.std.specs.Prelude.{List, [], ◌∷◌, ℕ}
use Rattle.std.specs.Coded.{×_prop, Π_prop, →_prop, Unit-prop, le_prop}
use Rattle.grid.specs.declared.Leg.{Leg}
use Rattle.grid.specs.declared.Position.{Position}
use Rattle.grid.specs.Position.{OnGrid}
use Rattle.split.specs.Hull.{Point, RightBelow, Under, Convex}
use Rattle.list_row.specs.Places.{HasSite}
use Rattle.list_row.specs.Vertices.{stack, Held}

right_below_alike : (u v : Point) → IsProp (RightBelow u v)
right_below_alike u v x y = λ j. record { right = le_prop x.right y.right j; down = le_prop x.down y.down j }

under_alike : (v : Point) (l : List Point) → IsProp (Under v l)
under_alike v [] = Unit-prop
under_alike v (u ∷ []) = right_below_alike u v
under_alike v (u ∷ s ∷ l) = ×_prop (right_below_alike u v) le_prop

convex_alike : (l : List Point) → IsProp (Convex l)
convex_alike [] = Unit-prop
convex_alike (v ∷ l) = ×_prop (under_alike v l) (convex_alike l)

on_grid_alike : (p : Position) → IsProp (OnGrid p)
on_grid_alike p x y = λ j. record { east = le_prop x.east y.east j; north = le_prop x.north y.north j }

has_site_alike : (t : List ℕ) (p : ℕ) → IsProp (HasSite t p)
has_site_alike t p x y = λ j. record {
  small = le_prop x.small y.small j;
  inside = le_prop x.inside y.inside j;
  on_grid = on_grid_alike _ x.on_grid y.on_grid j;
}

pub held_alike : (l : Leg) (t r : List ℕ) (k : ℕ) → IsProp (Held l t r k)
held_alike l t r k x y = λ j. record {
  inside = le_prop x.inside y.inside j;
  few = le_prop x.few y.few j;
  sites = (Π_prop (λ i. →_prop (has_site_alike t _))) x.sites y.sites j;
  convex = convex_alike (stack l t r k) x.convex y.convex j;
}
