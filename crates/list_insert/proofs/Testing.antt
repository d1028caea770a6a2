-- What the tests on vertices in hand say of the sites: the returns of `hides`, `stands`, `stays` and `below_chord`.
-- Assumes nothing.
use mathlib.Core.Path.{◌≡◌}
use mathlib.Core.Bool.{Bool, true, false}
use mathlib.Core.List.{List}
use Prim.Native.Nat.{ℕ, ◌+◌, ◌-◌, ◌≤◌, ◌<◌}
use native.Mathlib.Omega.{arith}
use Rattle.grid.specs.declared.Leg.{Leg}
use Rattle.grid.specs.Says.{Says}
use Rattle.split.specs.SplitList.{rank}
use Rattle.split.specs.Hull.{Point, RightBelow, Bends, Under}
use Rattle.split.specs.SplitOf.{Hides}
use Rattle.split.proofs.HullLaws.{under_step}
use Rattle.list_row.specs.declared.Vertex.{Vertex}
use Rattle.list_row.specs.Places.{site_at}
use Rattle.list_row.specs.Vertices.{point_at, IsVertex, place_at, vertex_in, stack, Held}
use Rattle.list_row.proofs.Stacks.{stack_top, stack_two, edge}
use Rattle.list_insert.specs.Insertion.{BendsInHand, Stays, Between, BelowChord}

-- the return of `hides` where the two tie
pub hides_tied : {l : Leg} {t : List ℕ} {p q : ℕ} {u x : Vertex} → IsVertex l t p u → IsVertex l t q x
    → u.c ≤ x.c → x.c ≤ u.c → x.a ≤ u.a → (b : Bool) → Says b (rank l (site_at t p) ≤ rank l (site_at t q))
    → Says b (Hides (point_at l t p) (point_at l t q))
hides_tied hu hx h g f true s = (omega (arith, hu.c_is, hx.c_is), λ _ _. s)
hides_tied hu hx h g f false s = λ d. s (d.1 (omega (arith, hu.c_is, hx.c_is)) (omega (arith, hu.a_is, hx.a_is)))

bends_of : {l : Leg} {t : List ℕ} {o p q : ℕ} {s u x : Vertex} (b : Bool) → IsVertex l t o s → IsVertex l t p u
    → IsVertex l t q x → Says b (BendsInHand s u x) → Says b (Bends (point_at l t o) (point_at l t p) (point_at l t q))
bends_of b hs hu hx k = rw (hs.a_is, hs.c_is, hu.a_is, hu.c_is, hx.a_is, hx.c_is) at k

module _ (l : Leg) (t r : List ℕ) where
  top_step : (j : ℕ) → 0 < j → (x : Point) → Under x (stack l t r j) → RightBelow (vertex_in l t r (j - 1)) x
  top_step j h x u = under_step (stack l t r (j - 1)) (rw (stack_top l t r j h) at u)

  under_one : (j : ℕ) → j ≡ 1 → (x : Point) → RightBelow (vertex_in l t r (j - 1)) x → Under x (stack l t r j)
  under_one j e x s = rw e (rw e at s)

  under_two : (j : ℕ) → 1 < j → (x : Point) (b : Bool) → RightBelow (vertex_in l t r (j - 1)) x
      → Says b (Bends (vertex_in l t r (j - 2)) (vertex_in l t r (j - 1)) x) → Says b (Under x (stack l t r j))
  under_two j h x true s n = rw (stack_two l t r j h) (s, n)
  under_two j h x false s n = rw (stack_two l t r j h) (λ u. n u.1)

-- u is the last of the first j
module _ {l : Leg} {t : List ℕ} (r : List ℕ) (j : ℕ) {q : ℕ} {u x : Vertex} (pos : 0 < j) (hu : IsVertex l t (place_at r (j - 1)) u) (hx : IsVertex l t q x) where
  pub not_right : x.a ≤ u.a → ¬ Under (point_at l t q) (stack l t r j)
  not_right h k = omega (arith, top_step l t r j pos (point_at l t q) k, hu.a_is, hx.a_is)

  pub not_down : u.c ≤ x.c → ¬ Under (point_at l t q) (stack l t r j)
  not_down h k = omega (arith, top_step l t r j pos (point_at l t q) k, hu.c_is, hx.c_is)

  stepped : u.a < x.a → x.c < u.c → RightBelow (vertex_in l t r (j - 1)) (point_at l t q)
  stepped h k = record { right = omega (arith, hu.a_is, hx.a_is); down = omega (arith, hu.c_is, hx.c_is) }

  pub stands_one : u.a < x.a → x.c < u.c → j ≡ 1 → Under (point_at l t q) (stack l t r j)
  stands_one h k e = under_one l t r j e (point_at l t q) (stepped h k)

  module _ {s : Vertex} (hs : IsVertex l t (place_at r (j - 2)) s) (h : 1 < j) where
    pub turn_asks : Held l t r j → (s.a ≤ u.a) × (u.c ≤ s.c)
    turn_asks hd =
        let e : j - 1 - 1 ≡ j - 2 = omega arith in
        let f = rw e at (edge l t r j (j - 1) hd (omega arith) (omega arith)) in
        (omega (arith, f.right, hs.a_is, hu.a_is), omega (arith, f.down, hs.c_is, hu.c_is))

    pub stands_two : u.a < x.a → x.c < u.c → (b : Bool) → Says b (BendsInHand s u x)
        → Says b (Under (point_at l t q) (stack l t r j))
    stands_two d e b k = under_two l t r j h (point_at l t q) b (stepped d e) (bends_of b hs hu hx k)

-- u is the vertex at i
module _ {l : Leg} {t : List ℕ} (r : List ℕ) (k i : ℕ) {q : ℕ} {u x : Vertex} (hu : IsVertex l t (place_at r i) u) (hx : IsVertex l t q x) where
  pub stays_not : x.c ≤ u.c → ¬ Stays l t r k (point_at l t q) i
  stays_not h s = omega (arith, s.step.down, hu.c_is, hx.c_is)

  -- right of x and below it
  module _ (h : x.a < (vertex_in l t r i).a) (g : u.c < x.c) where
    behind : RightBelow (point_at l t q) (vertex_in l t r i)
    behind = record { right = omega (arith, hx.a_is); down = omega (arith, hu.c_is, hx.c_is) }

    pub stays_last : i + 1 ≡ k → Stays l t r k (point_at l t q) i
    stays_last e = record { step = behind; turn = λ f. absurd (omega arith) }

    module _ {v : Vertex} (hv : IsVertex l t (place_at r (i + 1)) v) (f : i + 1 < k) where
      pub stays_asks : Held l t r k → (x.a ≤ u.a) × (u.a ≤ v.a) × (v.c ≤ u.c)
      stays_asks hd =
          let e : i + 1 - 1 ≡ i = omega arith in
          let s = rw e at (edge l t r k (i + 1) hd f (omega arith)) in
          (omega (arith, hu.a_is), omega (arith, s.right, hu.a_is, hv.a_is), omega (arith, s.down, hu.c_is, hv.c_is))

      pub stays_turn : (b : Bool) → Says b (BendsInHand x u v) → Says b (Stays l t r k (point_at l t q) i)
      stays_turn true s = record { step = behind; turn = λ _. bends_of true hx hu hv s }
      stays_turn false s = λ y. bends_of false hx hu hv s (y.turn f)

-- s is the vertex at j - 1, and u the vertex at i
module _ {l : Leg} {t : List ℕ} (r : List ℕ) (k j i : ℕ) {q : ℕ} {s u x : Vertex} (hs : IsVertex l t (place_at r (j - 1)) s) (hu : IsVertex l t (place_at r i) u)
    (hx : IsVertex l t q x) (h : 0 < j) (g : i < k) where
  pub chord_asks : Between l t r k j i (point_at l t q) → (s.a ≤ x.a) × (x.a ≤ u.a) × (u.c ≤ x.c) × (x.c ≤ s.c)
  chord_asks w = (
    omega (arith, (w.left h).right, hs.a_is, hx.a_is),
    omega (arith, (w.right g).right, hu.a_is, hx.a_is),
    omega (arith, (w.right g).down, hu.c_is, hx.c_is),
    omega (arith, (w.left h).down, hs.c_is, hx.c_is),
  )

  pub chord_turn : (b : Bool) → Says b (BendsInHand s x u) → Says b (BelowChord l t r k j i (point_at l t q))
  chord_turn true y = λ _ _. bends_of true hs hx hu y
  chord_turn false y = λ f. bends_of false hs hx hu y (f h g)
