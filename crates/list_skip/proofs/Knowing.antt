-- What is known of a list stays true as sites are dealt with: a list only falls.
-- Assumes nothing.
use mathlib.Core.Path.{◌≡◌, refl, ap, subst⁻¹}
use mathlib.Core.List.Memᴰ
use mathlib.Core.List.{List, [], ◌∷◌, ◌++◌}
use Prim.Native.Nat.{ℕ, zero, suc}
use Rattle.grid.specs.declared.Site.{Site}
use Rattle.grid.specs.declared.Leg.{Leg}
use Rattle.split.specs.Hull.{Point, points, Sub, IsHull}
use Rattle.split.proofs.HullLaws.{self}
use Rattle.split.proofs.Skipping.{shut_kept}
use Rattle.list_row.specs.Places.{site_at}
use Rattle.list_row.specs.Vertices.{place_at, vertex_in, stack, Held, Lists}
use Rattle.list_skip.specs.declared.Edge.{Edge}
use Rattle.list_skip.specs.Skipping.{Knows}

-- the sites of the first k of a row
abbrev row_sites : List ℕ → List ℕ → ℕ → List Site
row_sites t r zero = []
row_sites t r (suc k) = site_at t (place_at r k) ∷ row_sites t r k

row_points : (l : Leg) (t r : List ℕ) (k : ℕ) → points l (row_sites t r k) ≡ stack l t r k
row_points l t r zero = refl
row_points l t r (suc k) = ap (λ (q : List Point). vertex_in l t r k ∷ q) (row_points l t r k)

-- a row is the list of its own sites
row_lists : {l : Leg} {t r : List ℕ} {k : ℕ} → Held l t r k → Lists l t r k (row_sites t r k)
row_lists {l} {t} {r} {k} hd =
    subst⁻¹ (λ (q : List Point). IsHull q (stack l t r k)) (row_points l t r k)
    (record { convex = hd.convex; sub = λ v i. i; covers = self (λ v i. i) })

more_points : (l : Leg) (q s : List Site) → Sub (points l s) (points l (q ++ s))
more_points l [] s = λ v i. i
more_points l (p ∷ q) s = λ v i. Memᴰ.tail (more_points l q s v i)

-- WHAT IS KNOWN STAYS KNOWN
pub knows_kept : {l : Leg} {t r : List ℕ} {k : ℕ} {e : Edge} (r' : List ℕ) (n : ℕ) (q : List Site) → Held l t r k → ((s : List Site) → Lists l t r k s → Lists l t r' n (q ++ s))
    → Knows e (stack l t r k) → Knows e (stack l t r' n)
knows_kept {l} {t} {r} {k} r' n q hd more kn =
    let h = row_lists hd in
    record {
      small = kn.small;
      shuts = λ c w f. shut_kept h (more (row_sites t r k) h) (more_points l q (row_sites t r k)) (kn.shuts c w f);
    }
