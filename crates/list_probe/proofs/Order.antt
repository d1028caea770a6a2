-- Sites whose numbers rise are numbered, and no two have the same number.
-- Assumes nothing.
use mathlib.Core.Path.{◌≡◌, ap, sym, ◌∙◌}
use mathlib.Core.List.{List, [], ◌∷◌, Memᴰ}
use Prim.Native.Nat.{ℕ}
use native.Mathlib.Omega.{arith}
use Rattle.grid.specs.declared.Site.{Site}
use Rattle.grid.specs.declared.Leg.{Leg}
use Rattle.split.specs.SplitList.{Numbered, SitesOnGrid}
use Rattle.list_probe.specs.SiteArray.{sites_from, HasSites}
use Rattle.list_probe.specs.Probing.{NextSite, Orderly, Buildable}

-- each one is such a site
each : (m : ℕ) (s : List Site) → Orderly m s → (p : Site) → Memᴰ p s → NextSite m p
each m [] h p x'' = elim x'' [ ]
each m (q ∷ s) h p (Memᴰ.head e) = rw e h.0
each m (q ∷ s) h p (Memᴰ.tail i) =
    let n = each q.number s h.1 p i in
    record { above = omega (arith, n.above, h.0.above); small = n.small; on_grid = n.on_grid }

-- one number, one site
one : (m : ℕ) (s : List Site) → Orderly m s → (p q : Site) → Memᴰ p s → Memᴰ q s → p.number ≡ q.number → p ≡ q
one m [] h p q x4 _ k = elim x4 [ ]
one m (x ∷ s) h p q (Memᴰ.head e) (Memᴰ.head f) k = e ∙ sym f
one m (x ∷ s) h p q (Memᴰ.head e) (Memᴰ.tail j) k =
    absurd (omega (arith, (each x.number s h.1 q j).above, ap (λ (y : Site). y.number) e))
one m (x ∷ s) h p q (Memᴰ.tail i) (Memᴰ.head f) k =
    absurd (omega (arith, (each x.number s h.1 p i).above, ap (λ (y : Site). y.number) f))
one m (x ∷ s) h p q (Memᴰ.tail i) (Memᴰ.tail j) k = one x.number s h.1 p q i j k

pub orderly_numbered : (s : List Site) → Orderly 0 s → Numbered s
orderly_numbered s h = record { small = λ p m. (each 0 s h p m).small; one = λ p q i j e. one 0 s h p q i j e }

orderly_on_grid : (s : List Site) → Orderly 0 s → SitesOnGrid s
orderly_on_grid s h p m = (each 0 s h p m).on_grid

-- What `build` asks.
pub ready_sites : {t : List ℕ} {n : ℕ} {l : Leg} {room : ℕ} → Buildable t n l room → HasSites t 0 n
ready_sites {t} {n} h =
    record {
      few = h.few;
      inside = omega (arith, h.inside);
      even = omega arith;
      small = omega (arith, h.few);
      numbered = orderly_numbered (sites_from t 0 n) h.sites;
      on_grid = orderly_on_grid (sites_from t 0 n) h.sites;
    }
