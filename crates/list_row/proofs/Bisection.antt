-- Where a row is cut: the loops of `cut`, `climb` and `fall`.
-- Assumes nothing.
use mathlib.Core.Path.{◌≡◌, subst}
use mathlib.Core.Logic.{◌≢◌}
use mathlib.Core.List.{List}
use Prim.Native.Nat.{ℕ, ◌+◌, ◌-◌, ◌≤◌, ◌<◌}
use native.Mathlib.Omega.{arith}
use native.Mathlib.Decide.{dec_lt}
use Rattle.grid.specs.declared.Leg.{Leg}
use Rattle.list_row.specs.declared.Vertex.{Vertex}
use Rattle.list_row.specs.Vertices.{IsVertex, place_at, vertex_in, Held, Cut, CutBetween}
use Rattle.list_row.specs.Gaps.{Stands, About}
use Rattle.list_row.proofs.Stacks.{rising}

pub cut_begun : (l : Leg) (t r : List ℕ) (k a : ℕ) → CutBetween l t r k a 0 k
cut_begun l t r k a = record { order = omega arith; within = omega arith; left = λ h. absurd (omega arith); right = λ h. absurd (omega arith) }

module _ {l : Leg} {t r : List ℕ} {k a lo hi : ℕ} (n : CutBetween l t r k a lo hi) where
  pub cut_up : {mid : ℕ} {u : Vertex} → IsVertex l t (place_at r mid) u → mid < hi → u.a ≤ a → CutBetween l t r k a (mid + 1) hi
  cut_up {mid} hu h g =
      let e : (mid + 1) - 1 ≡ mid = omega arith in
      record { order = omega arith; within = n.within; left = λ p. rw e (omega (arith, hu.a_is)); right = n.right }

  pub cut_down : {mid : ℕ} {u : Vertex} → IsVertex l t (place_at r mid) u → lo ≤ mid → mid < hi → a < u.a → CutBetween l t r k a lo mid
  cut_down hu h g f =
      record { order = omega arith; within = omega (arith, n.within); left = n.left; right = λ p. omega (arith, hu.a_is) }

  pub cut_found : hi ≤ lo → Held l t r k → Cut l t r k a lo
  cut_found h hd =
      let e : hi ≡ lo = omega (arith, n.order) in
      let f : lo < k → a < (vertex_in l t r lo).a = subst (λ (i : ℕ). i < k → a < (vertex_in l t r i).a) e n.right in
      record {
        within = omega (arith, n.order, n.within);
        left = n.left;
        right = λ i p q. omega (arith, f (omega arith), rising l t r k lo i p q hd.convex);
      }

pub stands_at : {l : Leg} {t r : List ℕ} {k n : ℕ} {u : Vertex} → IsVertex l t (place_at r n) u → n < k → Stands l t r k u
stands_at {n = n} hu h = record { at = n; within = h; is = hu }

-- The returns of `climb` and `fall`, and the first look of `cut_near`.
module _ {l : Leg} {t r : List ℕ} {k a n : ℕ} where
  pub fall_end : {v : Vertex} → CutBetween l t r k a 0 n → n ≡ 0 → Held l t r k → Stands l t r k v → About l t r k a (record { n = 0; left = v; right = v })
  fall_end w e hd sv = record { cut = cut_found w (omega arith) hd; left = sv; right = sv }

  module _ {u : Vertex} where
    pub climb_found : {s : Vertex} → CutBetween l t r k a n k → n ≢ k → Stands l t r k s → IsVertex l t (place_at r n) u → a < u.a → Held l t r k
        → About l t r k a (record { n = n; left = s; right = u })
    climb_found w h ss hu g hd =
        let o = w.order in
        record {
          cut = cut_found (cut_down w hu (omega arith) (omega arith) g) (omega arith) hd;
          left = ss;
          right = record { at = n; within = omega arith; is = hu };
        }

    pub fall_found : {v : Vertex} → CutBetween l t r k a 0 n → n ≢ 0 → Stands l t r k v → IsVertex l t (place_at r (n - 1)) u → u.a ≤ a → Held l t r k
        → About l t r k a (record { n = n; left = u; right = v })
    fall_found w h sv hu g hd =
        let e : (n - 1) + 1 ≡ n = omega arith in
        record {
          cut = cut_found (rw e at (cut_up w hu (omega arith) g)) (omega arith) hd;
          left = record { at = n - 1; within = omega (arith, w.within); is = hu };
          right = sv;
        }

    pub climb_begun : IsVertex l t (place_at r n) u → n < k → u.a ≤ a → CutBetween l t r k a (n + 1) k
    climb_begun hu h g = cut_up (cut_begun l t r k a) hu h g

    pub fall_begun : IsVertex l t (place_at r n) u → n < k → a < u.a → CutBetween l t r k a 0 n
    fall_begun hu h g = cut_down (cut_begun l t r k a) hu (omega arith) h g

-- both vertices about the guess are known
pub pair_found : {l : Leg} {t r : List ℕ} {k a i j : ℕ} {u v : Vertex} → Held l t r k → i < k → j ≡ i - 1 → IsVertex l t (place_at r i) v → IsVertex l t (place_at r j) u
    → a < v.a → u.a ≤ a → About l t r k a (record { n = i; left = u; right = v })
pair_found {l} {t} {r} {k} {a} {i} {j} {u} {v} hd h e hv hu f g = go (dec_lt 0 i)
  where
    go : Dec (0 < i) → About l t r k a (record { n = i; left = u; right = v })
    go (yes p) =
        let q : IsVertex l t (place_at r (i - 1)) u = subst (λ (x : ℕ). IsVertex l t (place_at r x) u) e hu in
        fall_found (fall_begun hv h f) (λ z. omega arith) (stands_at hv h) q g hd
    go (no p) =
        let z : j ≡ i = omega arith in
        let w : IsVertex l t (place_at r i) u = subst (λ (x : ℕ). IsVertex l t (place_at r x) u) z hu in
        absurd (omega (arith, w.a_is, hv.a_is))
