-- The first k of a row read as a list of vertices, in the code's terms: the last one is at k - 1, the one before it at k - 2.
-- Assumes nothing.
use mathlib.Core.Path.{◌≡◌, refl, ap}
use mathlib.Core.List.Memᴰ
use mathlib.Core.List.{List, ◌∷◌}
use Prim.Native.Nat.{ℕ, zero, suc, ◌-◌, ◌≤◌, ◌<◌}
use native.Mathlib.Omega.{arith}
use native.Mathlib.Decide.{dec_lt}
use Rattle.grid.specs.declared.Leg.{Leg}
use Rattle.split.specs.Hull.{RightBelow, In, Convex}
use Rattle.split.proofs.HullLaws.{under_step}
use Rattle.split.proofs.Insertion.{convex_right}
use Rattle.list_row.specs.Vertices.{place_at, vertex_in, stack, Held}

module _ (l : Leg) (t r : List ℕ) where
  pub stack_top : (j : ℕ) → 0 < j → stack l t r j ≡ vertex_in l t r (j - 1) ∷ stack l t r (j - 1)
  stack_top zero h = absurd (omega arith)
  stack_top (suc k) h = let e : suc k - 1 ≡ k = omega arith in rw e

  pub stack_two : (j : ℕ) → 1 < j → stack l t r j ≡ vertex_in l t r (j - 1) ∷ vertex_in l t r (j - 2) ∷ stack l t r (j - 2)
  stack_two zero h = absurd (omega arith)
  stack_two (suc zero) h = absurd (omega arith)
  stack_two (suc (suc k)) h =
      let e : suc (suc k) - 1 ≡ suc k = omega arith in
      let f : suc (suc k) - 2 ≡ k = omega arith in
      rw (e, f)

  pub convex_below : (k j : ℕ) → j ≤ k → Convex (stack l t r k) → Convex (stack l t r j)
  convex_below zero j h cv = let e : j ≡ 0 = omega arith in rw e tt
  convex_below (suc k) j h cv = go (dec_lt j (suc k)) (λ g. convex_below k j g cv.1)
    where
      go : Dec (j < suc k) → (j ≤ k → Convex (stack l t r j)) → Convex (stack l t r j)
      go (yes d) next = next (omega arith)
      go (no d) next = let e : j ≡ suc k = omega arith in rw e cv

  pub held_below : (k j : ℕ) → j ≤ k → Held l t r k → Held l t r j
  held_below k j h hd =
      record {
        inside = omega (arith, hd.inside);
        few = omega (arith, hd.few);
        sites = λ i g. hd.sites i (omega arith);
        convex = convex_below k j h hd.convex;
      }

  -- a step from each vertex to the next
  pub edge : (k i : ℕ) → Held l t r k → i < k → 0 < i → RightBelow (vertex_in l t r (i - 1)) (vertex_in l t r i)
  edge k i hd h g = under_step (stack l t r (i - 1)) (rw (stack_top i g) at (convex_below k (suc i) h hd.convex).0)

  pub in_stack : (k i : ℕ) → i < k → In (vertex_in l t r i) (stack l t r k)
  in_stack zero i h = absurd (omega arith)
  in_stack (suc k) i h = go (dec_lt i k) (in_stack k i)
    where
      go : Dec (i < k) → (i < k → In (vertex_in l t r i) (stack l t r k)) → In (vertex_in l t r i) (stack l t r (suc k))
      go (yes d) next = Memᴰ.tail (next d)
      go (no d) next = let e : i ≡ k = omega arith in Memᴰ.head (ap (vertex_in l t r) e)

  -- a rises
  pub rising : (k i j : ℕ) → i ≤ j → j < k → Convex (stack l t r k) → (vertex_in l t r i).a ≤ (vertex_in l t r j).a
  rising k i j h g cv =
      convex_right (vertex_in l t r j) (stack l t r j) (convex_below k (suc j) g cv) (vertex_in l t r i) (in_stack (suc j) i (omega arith))

-- Rows that agree on the first n.
pub stack_agree : (l : Leg) (t r o : List ℕ) (n : ℕ) → ((j : ℕ) → j < n → place_at o j ≡ place_at r j) → stack l t o n ≡ stack l t r n
stack_agree l t r o zero f = refl
stack_agree l t r o (suc n) f = rw (f n (omega arith), stack_agree l t r o n (λ j h. f j (omega arith)))
