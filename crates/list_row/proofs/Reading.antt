-- What is read at a place, and in a row at an index.
-- Assumes nothing.
use mathlib.Core.Path.{◌≡◌, refl, ap, sym, ◌∙◌, subst}
use mathlib.Core.List.{List}
use Prim.Native.Nat.{ℕ, ◌+◌, ◌*◌, ◌≤◌, ◌<◌}
use native.Mathlib.Omega.{arith}
use lib.ListN.{length}
use Rattle.limits.specs.Limits.{max_distance}
use Rattle.words.specs.Words.{word_at}
use Rattle.grid.specs.declared.Site.{Site}
use Rattle.grid.specs.declared.Leg.{Leg}
use Rattle.grid.specs.Position.{OnGrid, distance}
use Rattle.list_row.specs.declared.Vertex.{Vertex}
use Rattle.list_row.specs.Places.{site_at_byte, site_at, HasSite}
use Rattle.list_row.specs.Vertices.{IsVertex, place_at, Held}

-- The site at p, measured.
module _ {t : List ℕ} {p : ℕ} {s : Site} (e : s ≡ site_at t p) where
  pub read_on_grid : HasSite t p → OnGrid s.position
  read_on_grid h = subst (λ (q : Site). OnGrid q.position) (sym e) h.on_grid

  pub vertex_is : {l : Leg} {a c : ℕ} → (a ≡ distance s.position l.s) × (a ≤ max_distance) → (c ≡ distance s.position l.e) × (c ≤ max_distance)
      → IsVertex l t p (record { place = p; a = a; c = c })
  vertex_is {l} ha hc =
      record {
        place_is = refl;
        a_is = ha.0 ∙ ap (λ (q : Site). distance q.position l.s) e;
        c_is = hc.0 ∙ ap (λ (q : Site). distance q.position l.e) e;
        small = record { small_a = omega (arith, ha.1); small_c = omega (arith, hc.1) };
      }

-- What stands in a row at i.
module _ (r : List ℕ) {p : ℕ} (i : ℕ) (e : p ≡ word_at r (2 * i)) where
  pub in_has : {l : Leg} {t : List ℕ} {k : ℕ} → Held l t r k → i < k → HasSite t p
  unfolding place_at
  in_has {t = t} h g = subst (λ (q : ℕ). HasSite t q) (sym e) (h.sites i g)

  pub in_is : {l : Leg} {t : List ℕ} {v : Vertex} → IsVertex l t p v → IsVertex l t (place_at r i) v
  unfolding place_at
  in_is {l} {t} {v} h = subst (λ (q : ℕ). IsVertex l t q v) e h

-- A vertex in hand stands at its own place.
module _ {l : Leg} {t : List ℕ} {p : ℕ} {v : Vertex} (h : IsVertex l t p v) where
  pub itself : IsVertex l t v.place v
  itself = subst (λ (q : ℕ). IsVertex l t q v) (sym h.place_is) h

  pub itself_has : HasSite t p → HasSite t v.place
  itself_has g = subst (λ (q : ℕ). HasSite t q) (sym h.place_is) g

-- The number of the site that stands in a row at i.
module _ (t r : List ℕ) (i p : ℕ) (e : p ≡ word_at r (2 * i)) where
  pub number_asks : HasSite t (place_at r i) → 2 * p + 2 ≤ length t
  unfolding place_at
  number_asks h = omega (arith, h.inside)

  pub number_is : (n : ℕ) → n ≡ word_at t (2 * p) → n ≡ (site_at t (place_at r i)).number
  unfolding place_at site_at_byte
  number_is n f = subst (λ (q : ℕ). n ≡ word_at t (2 * q)) e f
