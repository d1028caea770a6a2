-- A vertex that two neighbours take over, and the walk of `right_tangent`.
-- Assumes nothing.
use mathlib.Core.Path.{◌≡◌, subst}
use mathlib.Core.Bool.{Bool, true, false}
use mathlib.Core.Logic.{◌⊎◌, inl, inr}
use mathlib.Core.List.{List}
use Prim.Native.Nat.{ℕ, ◌+◌, ◌-◌, ◌≤◌, ◌<◌}
use native.Mathlib.Nat.{mul-le-mul_left, mul-lt-mul_of_pos_left}
use native.Mathlib.Decide.{dec_lt}
use native.Mathlib.Omega.{arith}
use Rattle.grid.specs.declared.Leg.{Leg}
use Rattle.grid.specs.Says.{Says}
use Rattle.split.specs.Hull.{Point, value, RightBelow, Bends, Beats}
use Rattle.split.proofs.Points.{flat, beats_less, beats_down, beats_trans}
use Rattle.list_row.specs.declared.Vertex.{Vertex}
use Rattle.list_row.specs.Vertices.{point_at, IsVertex, vertex_in, Held, Cut}
use Rattle.list_row.proofs.Stacks.{edge}
use Rattle.list_insert.specs.Insertion.{Stays, EitherBeats, TakenOver, Tangent}

-- Where the breakpoints do not rise, one of the two neighbours beats the vertex between them.
pub no_turn : {s u v : Point} → RightBelow s u → RightBelow u v → ¬ Bends s u v → (m w : ℕ) → Beats m w s u ⊎ Beats m w v u
no_turn {s} {u} {v} f g nt m w = go (dec_lt (value m w u) (value m w v))
  where
    go : Dec (value m w u < value m w v) → Beats m w s u ⊎ Beats m w v u
    go (yes h) = inl (beats_less (flat m w f g (omega arith) h))
    go (no h) = inr (beats_down (omega arith) g.down)

-- A vertex right of x and not below it is never as near.
beats_right : {x u : Point} → x.a < u.a → x.c ≤ u.c → (m w : ℕ) → 0 < m → Beats m w x u
beats_right h g m w pm = beats_less (omega (arith, mul-lt-mul_of_pos_left {k = m} h pm, mul-le-mul_left w g))

pub over_none : {l : Leg} {t r : List ℕ} {k n : ℕ} {x : Point} → n ≤ k → TakenOver l t r k n x n
over_none h = record { from = omega arith; upto = h; beaten = λ i p q. absurd (omega arith) }

-- The vertex at i does not stay.
module _ {l : Leg} {t r : List ℕ} {k : ℕ} {x : Point} (hd : Held l t r k) {i : ℕ} (h : i < k) (right : x.a < (vertex_in l t r i).a) (no-stay : ¬ Stays l t r k x i) where
  gone : (m w : ℕ) → 0 < m → 0 < w → EitherBeats l t r k x (i + 1) m w (vertex_in l t r i)
  gone m w pm pw = go (dec_lt (vertex_in l t r i).c x.c) (dec_lt (i + 1) k)
    where
      go : Dec ((vertex_in l t r i).c < x.c) → Dec (i + 1 < k) → EitherBeats l t r k x (i + 1) m w (vertex_in l t r i)
      go (no c) d = inl (beats_right right (omega arith) m w pm)
      go (yes c) (no d) = absurd (no-stay (record { step = record { right = right; down = c }; turn = λ f. absurd (d f) }))
      go (yes c) (yes d) =
          let e : i + 1 - 1 ≡ i = omega arith in
          let s : RightBelow x (vertex_in l t r i) = record { right = right; down = c } in
          let nt : ¬ Bends x (vertex_in l t r i) (vertex_in l t r (i + 1)) = λ f. no-stay (record { step = s; turn = λ _. f }) in
          by (no_turn s (rw e at (edge l t r k (i + 1) hd d (omega arith))) nt m w)
        where
          by : Beats m w x (vertex_in l t r i) ⊎ Beats m w (vertex_in l t r (i + 1)) (vertex_in l t r i)
              → EitherBeats l t r k x (i + 1) m w (vertex_in l t r i)
          by (inl b) = inl b
          by (inr b) = inr (d, b)

  over_next : {n : ℕ} → TakenOver l t r k n x i → TakenOver l t r k n x (i + 1)
  over_next {n} o =
      record {
        from = omega (arith, o.from);
        upto = omega arith;
        beaten = λ j p q m w pm pw. go j p q m w pm pw (dec_lt j i);
      }
    where
      both : (m w : ℕ) {q : Point} → EitherBeats l t r k x i m w q → EitherBeats l t r k x (i + 1) m w (vertex_in l t r i) → EitherBeats l t r k x (i + 1) m w q
      both m w (inl b) g = inl b
      both m w (inr b) (inl g) = inl (beats_trans g b.1)
      both m w (inr b) (inr g) = inr (g.0, beats_trans g.1 b.1)

      go : (j : ℕ) → n ≤ j → j < i + 1 → (m w : ℕ) → 0 < m → 0 < w → Dec (j < i) → EitherBeats l t r k x (i + 1) m w (vertex_in l t r j)
      go j p q m w pm pw (yes d) = both m w (o.beaten j p d m w pm pw) (gone m w pm pw)
      go j p q m w pm pw (no d) = let e : j ≡ i = omega arith in rw e (gone m w pm pw)

-- The walk of `right_tangent`.
module _ {l : Leg} {t r : List ℕ} {k n p i : ℕ} {x : Vertex} (hx : IsVertex l t p x) (cx : Cut l t r k x.a n) where
  pub tangent_next : Held l t r k → i < k → (b : Bool) → Says b (Stays l t r k (point_at l t p) i) → b ≡ false
      → TakenOver l t r k n (point_at l t p) i → TakenOver l t r k n (point_at l t p) (i + 1)
  tangent_next hd h b s e o = over_next hd h (omega (arith, hx.a_is, cx.right i o.from h)) (rw e at s) o

pub tangent_here : {l : Leg} {t r : List ℕ} {k n i : ℕ} {x : Point} → TakenOver l t r k n x i → (b : Bool) → Says b (Stays l t r k x i) → b ≡ true
    → Tangent l t r k n x i
tangent_here o b s e = record { over = o; stays = λ h. rw e at s }

pub tangent_none : {l : Leg} {t r : List ℕ} {k n i : ℕ} {x : Point} → TakenOver l t r k n x i → k ≤ i → Tangent l t r k n x k
tangent_none {l} {t} {r} {k} {n} {i} {x} o h =
    let e : i ≡ k = omega (arith, o.upto) in
    record { over = subst (λ (j : ℕ). TakenOver l t r k n x j) e o; stays = λ g. absurd (omega arith) }
