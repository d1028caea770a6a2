-- A corner that two listed points shut out is above the hull at every weight: nothing at or beyond it changes the list.
-- Assumes nothing.
use mathlib.Core.Path.{◌≡◌}
use mathlib.Core.List.Memᴰ
use mathlib.Core.List.{List, ◌∷◌}
use Prim.Native.Nat.{ℕ, ◌+◌, ◌*◌, ◌-◌, ◌≤◌, ◌<◌}
use native.Mathlib.Nat.{mul-le-mul_left, mul-le-mul_right, mul-lt-mul_of_pos_left, lt_of_mul-lt-mul_left}
use native.Mathlib.Decide.{dec_le}
use native.Mathlib.Omega.{arith}
use Rattle.grid.specs.declared.Corner.{Corner}
use Rattle.split.specs.Hull.{Point, value, Beats, In, Sub, IsHull}
use Rattle.split.specs.Skip.{corner_of, Shut, ShutOut, Witness}
use Rattle.split.proofs.HullLaws.{grow, covers_one, covers_cons, self}
use Rattle.split.proofs.Points.{mul_gap, beats_less}

rearranged : (x y p q : ℕ) → x ≤ y → p ≤ q → x * q + y * p ≤ x * p + y * q
rearranged x y p q h k =
    let e : y ≡ x + (y - x) = omega arith in
    omega (arith, mul-le-mul_right (y - x) k, mul_gap p x y (y - x) e, mul_gap q x y (y - x) e)

-- below the corner at one weight: below it further right if as low, further left if as far left
further : (m n x y : ℕ) (v : Point) (a c : ℕ) → 0 < m → v.c ≤ c → y * m ≤ n * x → value x y v < x * a + y * c → value m n v < m * a + n * c
further m n x y v a c pm h k f =
    lt_of_mul-lt-mul_left x (omega (arith, mul-lt-mul_of_pos_left {k = m} f pm, rearranged (y * m) (n * x) v.c c k h))

nearby : (m n x y : ℕ) (v : Point) (a c : ℕ) → 0 < n → v.a ≤ a → n * x ≤ y * m → value x y v < x * a + y * c → value m n v < m * a + n * c
nearby m n x y v a c pn h k f =
    lt_of_mul-lt-mul_left y (omega (arith, mul-lt-mul_of_pos_left {k = n} f pn, rearranged (n * x) (y * m) v.a a k h))

-- TWO POINTS SHUT THE CORNER OUT
pub witness_shuts : {l : List Point} {a c : ℕ} → Witness l a c → ShutOut l a c
witness_shuts {l} {a} {c} w = record { below = λ m n pm pn. go m n pm pn (dec_le (w.shut.n * m) (n * w.shut.m)) }
  where
    s : Shut (corner_of w.u) (corner_of w.v) a c
    s = w.shut

    go : (m n : ℕ) → 0 < m → 0 < n → Dec (w.shut.n * m ≤ n * w.shut.m) → (x : Point) × In x l × (value m n x < m * a + n * c)
    go m n pm pn (yes k) = (w.v, w.has_v, further m n s.m s.n w.v a c pm s.low k s.under_v)
    go m n pm pn (no k) = (w.u, w.has_u, nearby m n s.m s.n w.u a c pn s.left (omega arith) s.under_u)

-- what a list shuts out stays shut out as points are added
pub shut_kept : {l l' Q Q' : List Point} {a c : ℕ} → IsHull Q l → IsHull Q' l' → Sub Q Q' → ShutOut l a c → ShutOut l' a c
shut_kept {l' = l'} {a = a} {c = c} h h' more w = record { below = go }
  where
    go : (m n : ℕ) → 0 < m → 0 < n → (v : Point) × In v l' × (value m n v < m * a + n * c)
    go m n pm pn =
        let (x, i, f) = w.below m n pm pn in
        let (v, j, b) = h'.covers m n pm pn x (more x (h.sub x i)) in
        (v, j, omega (arith, b.low))

module _ {l : List Point} {a c : ℕ} (w : ShutOut l a c) where
  -- THE SKIP: nothing that is at least the corner in both changes the list
  pub skip_hull : (p : Point) → a ≤ p.a → c ≤ p.c → {Q : List Point} → IsHull Q l → IsHull (p ∷ Q) l
  skip_hull p ha hc {Q} h = grow (λ q i. Memᴰ.tail i) (covers_cons (covers_one below) (self λ q i. i)) h
    where
      below : (m n : ℕ) → 0 < m → 0 < n → (x : Point) × In x Q × Beats m n x p
      below m n pm pn =
          let (x, i, f) = w.below m n pm pn in
          (x, h.sub x i, beats_less (omega (arith, mul-le-mul_left m ha, mul-le-mul_left n hc)))

-- The two tests. A vertex as low in both and lower in one:
pub shut_one : (v : Corner) (a c : ℕ) → v.a ≤ a → v.c ≤ c → v.a + v.c < a + c → Shut v v a c
shut_one v a c h k f = record { m = 1; n = 1; left = h; low = k; under_u = omega arith; under_v = omega arith }

-- an edge of the value e that the corner, of the value f, is strictly above:
pub shut_edge : (u v : Corner) (a c e f : ℕ) → u.a < v.a → v.c < u.c → u.a ≤ a → v.c ≤ c
    → e ≡ (u.c - v.c) * v.a + (v.a - u.a) * v.c → f ≡ (u.c - v.c) * a + (v.a - u.a) * c → e < f → Shut u v a c
shut_edge u v a c e f r d h k ee ef lt =
    let x = mul_gap (u.c - v.c) u.a v.a (v.a - u.a) (omega arith) in
    let y = mul_gap (v.a - u.a) v.c u.c (u.c - v.c) (omega arith) in
    record { m = u.c - v.c; n = v.a - u.a; left = h; low = k; under_u = omega arith; under_v = omega arith }
