-- A site dealt with: it stands already, it is skipped, or it is inserted. The returns of `deal`.
-- Assumes nothing.
use mathlib.Core.Path.{◌≡◌, sym, subst}
use mathlib.Core.List.Memᴰ
use mathlib.Core.List.{List, [], ◌∷◌}
use Prim.Native.Nat.{ℕ}
use native.Mathlib.Omega.{arith}
use Rattle.limits.specs.Limits.{max_sites}
use Rattle.words.proofs.Frame.{only_refl, only_wider}
use Rattle.grid.specs.declared.Leg.{Leg}
use Rattle.split.specs.Hull.{Point, In, IsHull}
use Rattle.split.specs.Skip.{ShutOut}
use Rattle.split.proofs.HullLaws.{grow, covers_cons, self, members}
use Rattle.split.proofs.Skipping.{skip_hull}
use Rattle.list_row.specs.declared.Vertex.{Vertex}
use Rattle.list_row.specs.Vertices.{point_at, IsVertex, stack, Held}
use Rattle.list_insert.specs.Insertion.{Inserted}
use Rattle.list_skip.specs.Skipping.{Space, Dealt}

-- a vertex of the hull once more
again : {p : Point} {Q h : List Point} → In p h → IsHull Q h → IsHull (p ∷ Q) h
again {p} {Q} i k = grow (λ v m. Memᴰ.tail m) (covers_cons (self one) (self (λ v m. m))) k
  where
    one : (v : Point) → In v (p ∷ []) → In v Q
    one v (Memᴰ.tail x4) = elim x4 [ ]
    one v (Memᴰ.head e) = subst (λ (q : Point). In q Q) (sym e) (k.sub p i)

module _ {l : Leg} {t r : List ℕ} {k p : ℕ} (hd : Held l t r k) where
  pub deal_full : k ≡ max_sites → Space l t r k p → Dealt l t r k p r k
  deal_full e f =
      record { within = omega arith; held = hd; lists = λ s d. again (f (omega arith)) d; only = only_refl }

  module _ {x : Vertex} (hx : IsVertex l t p x) where
    pub deal_skipped : ShutOut (stack l t r k) x.a x.c → Dealt l t r k p r k
    deal_skipped w =
        record {
          within = omega arith;
          held = hd;
          lists = λ s d. skip_hull w (point_at l t p) (omega (arith, hx.a_is)) (omega (arith, hx.c_is)) d;
          only = only_refl;
        }

    pub deal_inserted : {r' : List ℕ} {n : ℕ} → Inserted l t r k (point_at l t x.place) r' n → Dealt l t r k p r' n
    deal_inserted {r'} {n} i =
        let i' : Inserted l t r k (point_at l t p) r' n = subst (λ (q : ℕ). Inserted l t r k (point_at l t q) r' n) hx.place_is i in
        record {
          within = i.within;
          held = i.held;
          lists = λ s d. members d i'.hull;
          only = only_wider (omega arith) (omega arith) i.only;
        }

-- The site at p, measured, is dealt with at its own place.
module _ {l : Leg} {t : List ℕ} {p : ℕ} {x : Vertex} (hx : IsVertex l t p x) (r : List ℕ) (k : ℕ) where
  pub place_space : Space l t r k p → Space l t r k x.place
  place_space f = subst (λ (q : ℕ). Space l t r k q) (sym hx.place_is) f

  pub place_dealt : {r' : List ℕ} {n : ℕ} → Dealt l t r k x.place r' n → Dealt l t r k p r' n
  place_dealt {r'} {n} d = subst (λ (q : ℕ). Dealt l t r k q r' n) hx.place_is d
