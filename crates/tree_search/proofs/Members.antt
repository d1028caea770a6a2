-- Which sites a list has: the order in which they were dealt with does not show.
-- Assumes nothing.
use mathlib.Core.Path.{◌≡◌, refl, ap, subst⁻¹}
use mathlib.Core.Logic.{⊎_elim}
use mathlib.Core.List.Memᴰ
use mathlib.Core.List.{List, [], ◌∷◌, ◌++◌, Memᴰ}
use Rattle.grid.specs.declared.Site.{Site}
use Rattle.grid.specs.declared.Leg.{Leg}
use Rattle.split.specs.SplitList.{SameSites}
use Rattle.split.specs.Hull.{Point, points, In, Sub, IsHull}
use Rattle.split.proofs.HullLaws.{grow, self}
use Rattle.split.proofs.Exists.{of_points, to_points}
use Rattle.tree_node.specs.declared.NodeEntry.{NodeEntry}
use Rattle.tree_rules.specs.Tree.{Each}
use Rattle.permutation.specs.Perm.{Perm}
use Rattle.permutation.specs.Perm.Perm.{same, next, swap, trans}
use Rattle.tree_search.specs.Sites.{site_of, sites}

pub sites_append : (a b : List NodeEntry) → sites (a ++ b) ≡ sites a ++ sites b
unfolding sites
sites_append [] b = refl
sites_append (e ∷ a) b = ap (λ (s : List Site). site_of e ∷ s) (sites_append a b)

-- what holds of each entry's site holds of each site
pub sites_each : (P : Site → Type 0) (l : List NodeEntry) → Each (λ e. P (site_of e)) l → (p : Site) → Memᴰ p (sites l) → P p
unfolding Each sites
sites_each P [] h p m = absurd (Memᴰ.not-nil m)
sites_each P (e ∷ l) h p m =
    ⊎_elim (λ (q : p ≡ site_of e). subst⁻¹ P q h.0) (λ (i : Memᴰ p (sites l)). sites_each P l h.1 p i) (Memᴰ.cases_cons m)

pub sites_perm : {a b : List NodeEntry} → Perm a b → (p : Site) → Memᴰ p (sites a) → Memᴰ p (sites b)
unfolding sites
sites_perm same p m = m
sites_perm (next {x = e} {l = l} q) p m =
    ⊎_elim
    (λ (z : p ≡ site_of e). Memᴰ.head z)
    (λ (i : Memᴰ p (sites l)). Memᴰ.tail (sites_perm q p i))
    (Memᴰ.cases_cons m)
sites_perm (swap {x = a} {y = b} {l = l}) p m =
    ⊎_elim
    (λ (z : p ≡ site_of a). Memᴰ.tail (Memᴰ.head z))
    (λ (i : Memᴰ p (site_of b ∷ sites l)).
    ⊎_elim
    (λ (z : p ≡ site_of b). Memᴰ.head z)
    (λ (j : Memᴰ p (sites l)). Memᴰ.tail (Memᴰ.tail j))
    (Memᴰ.cases_cons i))
    (Memᴰ.cases_cons m)
sites_perm (trans q r) p m = sites_perm r p (sites_perm q p m)

sub_points : (l : Leg) (s u : List Site) → ((p : Site) → Memᴰ p s → Memᴰ p u) → Sub (points l s) (points l u)
sub_points l s u f v i =
    let (m, e) = of_points l s v i in
    subst⁻¹ (λ (p : Point). In p (points l u)) e (to_points l u v.site (f v.site m))

-- THE ORDER OF THE SITES DOES NOT MATTER
pub hull_same : (l : Leg) (s u : List Site) → SameSites s u → {h : List Point} → IsHull (points l s) h → IsHull (points l u) h
hull_same l s u w d = grow (sub_points l s u w.to) (self (sub_points l u s w.back)) d
