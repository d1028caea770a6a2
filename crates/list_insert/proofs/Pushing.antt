-- Where a vertex goes that is pushed on the first k of a row: the returns of `place`.
-- Assumes nothing.
use mathlib.Core.Path.{◌≡◌, ◌∙◌}
use mathlib.Core.Bool.{Bool, true, false}
use mathlib.Core.List.{List, [], ◌∷◌}
use Prim.Native.Nat.{ℕ, zero, suc, ◌-◌, ◌≤◌, ◌<◌}
use native.Mathlib.Omega.{arith}
use Rattle.grid.specs.declared.Leg.{Leg}
use Rattle.grid.specs.Says.{Says}
use Rattle.split.specs.Hull.{Point, Under, Convex, IsHull}
use Rattle.split.specs.SplitOf.{Hides, push}
use Rattle.split.proofs.Insertion.{push_hides, push_stands, push_drops, push_empty, pushed, convex_right}
use Rattle.list_row.specs.declared.Vertex.{Vertex}
use Rattle.list_row.specs.Places.{HasSite}
use Rattle.list_row.specs.Vertices.{point_at, IsVertex, place_at, vertex_in, stack, Held}
use Rattle.list_row.proofs.Reading.{itself_has}
use Rattle.list_row.proofs.Stacks.{stack_top, held_below}

module _ (l : Leg) (t r : List ℕ) (j : ℕ) (h : 0 < j) (x : Point) where
  hides_stack : Hides (vertex_in l t r (j - 1)) x → push x (stack l t r j) ≡ stack l t r j
  hides_stack k = rw (stack_top l t r j h) (push_hides x (vertex_in l t r (j - 1)) (stack l t r (j - 1)) k)

  stands_stack : ¬ Hides (vertex_in l t r (j - 1)) x → Under x (stack l t r j) → push x (stack l t r j) ≡ x ∷ stack l t r j
  stands_stack k u = rw (stack_top l t r j h) (push_stands x (vertex_in l t r (j - 1)) (stack l t r (j - 1)) k (rw (stack_top l t r j h) at u))

  drops_stack : ¬ Hides (vertex_in l t r (j - 1)) x → ¬ Under x (stack l t r j) → push x (stack l t r j) ≡ push x (stack l t r (j - 1))
  drops_stack k u = rw (stack_top l t r j h) (push_drops x (vertex_in l t r (j - 1)) (stack l t r (j - 1)) k (rw (stack_top l t r j h) at u))

-- What is found so far: x goes on the first k vertices as it goes on the first j.
pub record Dropped (l : Leg) (t r : List ℕ) (k : ℕ) (x : Point) (j : ℕ) : Type 0 where
  pub held : Held l t r j
  pub within : j ≤ k
  pub same : push x (stack l t r k) ≡ push x (stack l t r j)

pub last_has : {l : Leg} {t r : List ℕ} {k j : ℕ} {x : Point} {u : Vertex} → Dropped l t r k x j → 0 < j
    → IsVertex l t (place_at r (j - 1)) u → HasSite t u.place
last_has {j = j} d pos hu = itself_has hu (d.held.sites (j - 1) (omega arith))

-- The returns of `place`.
pub none_left : {l : Leg} {t r : List ℕ} {k : ℕ} {x : Point} {j : ℕ} → Dropped l t r k x j → j ≡ 0 → push x (stack l t r k) ≡ x ∷ []
none_left {x = x} d e = d.same ∙ rw e (push_empty x)

module _ (l : Leg) (t r : List ℕ) (k j q : ℕ) (u : Vertex) (d : Dropped l t r k (point_at l t q) j) (pos : 0 < j)
    (hu : IsVertex l t (place_at r (j - 1)) u) (b : Bool)
    (hb : Says b (Hides (point_at l t u.place) (point_at l t q))) where
  told : Says b (Hides (vertex_in l t r (j - 1)) (point_at l t q))
  told = rw hu.place_is at hb

  pub place_hidden : b ≡ true → push (point_at l t q) (stack l t r k) ≡ stack l t r j
  place_hidden e = d.same ∙ hides_stack l t r j pos (point_at l t q) (rw e at told)

  pub place_under : (n : ℕ) → n ≡ j → b ≡ false → (f : Bool) → f ≡ true → Says f (Under (point_at l t q) (stack l t r j))
      → push (point_at l t q) (stack l t r k) ≡ point_at l t q ∷ stack l t r n
  place_under n en e f ef hf = rw en (d.same ∙ stands_stack l t r j pos (point_at l t q) (rw e at told) (rw ef at hf))

  pub place_next : b ≡ false → (f : Bool) → f ≡ false → Says f (Under (point_at l t q) (stack l t r j)) → Dropped l t r k (point_at l t q) (j - 1)
  place_next e f ef hf =
      record {
        held = held_below l t r j (j - 1) (omega arith) d.held;
        within = omega (arith, d.within);
        same = d.same ∙ drops_stack l t r j pos (point_at l t q) (rw e at told) (rw ef at hf);
      }

-- The last of the first k is not right of x: they and x have the hull that `push` computes.
pub pushed_stack : (l : Leg) (t r : List ℕ) (k : ℕ) (x : Point) → Convex (stack l t r k) → (0 < k → (vertex_in l t r (k - 1)).a ≤ x.a)
    → IsHull (x ∷ stack l t r k) (push x (stack l t r k))
pushed_stack l t r zero x h g = pushed x [] h (λ v i. elim i [ ])
pushed_stack l t r (suc k) x h g =
    let e : suc k - 1 ≡ k = omega arith in
    let f = rw e at (g (omega arith)) in
    pushed x (stack l t r (suc k)) h (λ v i. omega (arith, convex_right (vertex_in l t r k) (stack l t r k) h v i))
