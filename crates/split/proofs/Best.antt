-- Strictly between its two breakpoints each vertex of a hull is the best point of the whole set.
-- Assumes nothing.
use mathlib.Core.Path.{◌≡◌, refl}
use mathlib.Core.Logic.{◌⊎◌, inl, inr}
use mathlib.Core.List.Memᴰ
use mathlib.Core.List.{List, [], ◌∷◌}
use Prim.Native.Nat.{ℕ, suc, ◌+◌, ◌*◌, ◌≤◌, ◌<◌}
use native.Mathlib.Nat.{mul-le-mul_left, le_of_mul-le-mul_left}
use native.Mathlib.Decide.{dec_lt}
use native.Mathlib.Omega.{arith}
use Rattle.split.specs.Hull.{Point, value, rise, fall, Beats, In, Convex, IsHull}
use Rattle.split.specs.SplitOf.{onto}
use Rattle.split.proofs.HullLaws.{under_step}
use Rattle.split.proofs.Points.{gap, turn, beats_less}

abbrev pub Precedes : ℕ → ℕ → Point → Point → Type 0
Precedes m n p q = (value m n p < value m n q) ⊎ ((value m n p ≡ value m n q) × (p.order ≤ q.order))

pub record Best (m n : ℕ) (p : Point) (Q : List Point) : Type 0 where
  pub member : In p Q
  pub first : (q : Point) → In q Q → Precedes m n p q

-- v is strictly lower than each other vertex of l.
abbrev Sole : ℕ → ℕ → Point → List Point → Type 0
Sole m n v l = (x : Point) → In x l → (x ≡ v) ⊎ (value m n v < value m n x)

module _ (m n : ℕ) (pm : 0 < m) (pn : 0 < n) (v q : Point) where
  sole_beats : (x : Point) → (x ≡ v) ⊎ (value m n v < value m n x) → Beats m n x q → Beats m n v q
  sole_beats x (inl e) b = rw e at b
  sole_beats x (inr h) b = beats_less (omega (arith, b.low))

  -- A weight a little further left, where v is still the lowest: there a point of v's value with a lower a would show.
  near : (x : Point) → (x ≡ v) ⊎ (value m n v < value m n x) → value m n q ≤ value m n v
      → value (suc v.a * m + 1) (suc v.a * n) x ≤ value (suc v.a * m + 1) (suc v.a * n) q → v.a ≤ q.a
  near x (inl e) h k = let k' = rw e at k in omega (arith, mul-le-mul_left (suc v.a) h, k')
  near x (inr l) h k = omega (arith, mul-le-mul_left (suc v.a) h, mul-le-mul_left (suc v.a) l, k)

  before : Beats m n v q → (value m n q ≤ value m n v → v.a ≤ q.a) → Dec (value m n v < value m n q) → Precedes m n v q
  before b h (yes k) = inl k
  before b h (no k) =
      let e : value m n q ≤ value m n v = omega arith in
      inr (
        omega (arith, b.low),
        b.then_order e (le_of_mul-le-mul_left {k = n} (omega (arith, mul-le-mul_left m (h e))) pn),
      )

pub sole_best : (m n : ℕ) → 0 < m → 0 < n → {Q l : List Point} (v : Point) → IsHull Q l → In v l → Sole m n v l → Best m n v Q
sole_best m n pm pn {Q} v h i sole = record { member = h.sub v i; first = first }
  where
    first : (q : Point) → In q Q → Precedes m n v q
    first q iq =
        let (x, ix, bx) = h.covers m n pm pn q iq in
        let (y, iy, by) = h.covers (suc v.a * m + 1) (suc v.a * n) (omega arith) (omega (arith, mul-le-mul_left v.a pn)) q iq in
        before m n pm pn v q
        (sole_beats m n pm pn v q x (sole x ix) bx)
        (λ e. near m n pm pn v q y (sole y iy) e by.low)
        (dec_lt (value m n v) (value m n q))

-- v is strictly lower than the head of l, if there is one.
abbrev pub Lower : ℕ → ℕ → Point → List Point → Type 0
Lower m n v [] = Unit {0}
Lower m n v (u ∷ l) = value m n v < value m n u

pub convex_prefix : (r l : List Point) → Convex (onto r l) → Convex l
convex_prefix [] l h = h
convex_prefix (w ∷ r) l h = (convex_prefix r (w ∷ l) h).1

onto_cases : (r l : List Point) (x : Point) → In x (onto r l) → In x r ⊎ In x l
onto_cases [] l x i = inr i
onto_cases (w ∷ r) l x i = go (onto_cases r (w ∷ l) x i)
  where
    go : In x r ⊎ In x (w ∷ l) → In x (w ∷ r) ⊎ In x l
    go (inl j) = inl (Memᴰ.tail j)
    go (inr (Memᴰ.head e)) = inl (Memᴰ.head e)
    go (inr (Memᴰ.tail j)) = inr j

module _ (m n : ℕ) (pm : 0 < m) where
  -- Lower than the vertex before, lower than all before.
  before_all : (v : Point) (l : List Point) → Convex (v ∷ l) → Lower m n v l → (x : Point) → In x l → value m n v < value m n x
  before_all v [] h k x x5 = elim x5 [ ]
  before_all v (u ∷ []) h k x (Memᴰ.tail i) = elim i [ ]
  before_all v (u ∷ l) h k x (Memᴰ.head e) = rw e k
  before_all v (u ∷ s ∷ l) h k x (Memᴰ.tail i) =
      let t = turn m n pm (under_step l h.1.0) h.0.0 h.0.1 (omega arith) in
      omega (arith, before_all u (s ∷ l) h.1 t x i)

  -- Lower than the vertex after, lower than all after.
  after_all_lem : (r : List Point) (v : Point) (l : List Point) → Convex (onto r (v ∷ l)) → Lower m n v r → (x : Point) → In x r → value m n v < value m n x
  after_all_lem [] v l h k x x5 = elim x5 [ ]
  after_all_lem (w ∷ []) v l h k x (Memᴰ.tail i) = elim i [ ]
  after_all_lem (w ∷ r) v l h k x (Memᴰ.head e) = rw e k
  after_all_lem (w ∷ w' ∷ r) v l h k x (Memᴰ.tail i) =
      omega (arith, after_all_lem (w' ∷ r) w (v ∷ l) h (rises (dec_lt (value m n w) (value m n w'))) x i)
    where
      cv : Convex (w' ∷ w ∷ v ∷ l)
      cv = convex_prefix r (w' ∷ w ∷ v ∷ l) h

      rises : Dec (value m n w < value m n w') → value m n w < value m n w'
      rises (yes d) = d
      rises (no d) =
          let t = turn m n pm (under_step l cv.1.0) cv.0.0 cv.0.1 (omega arith) in
          omega arith

pub onto_keeps : (r l : List Point) (x : Point) → In x l → In x (onto r l)
onto_keeps [] l x i = i
onto_keeps (w ∷ r) l x i = onto_keeps r (w ∷ l) x (Memᴰ.tail i)

lower_best : (m n : ℕ) → 0 < m → 0 < n → {Q : List Point} (r : List Point) (v : Point) (l : List Point)
    → IsHull Q (onto r (v ∷ l)) → Lower m n v r → Lower m n v l → Best m n v Q
lower_best m n pm pn r v l h kr kl =
    sole_best m n pm pn v h (onto_keeps r (v ∷ l) v (Memᴰ.head refl)) (λ x i. go x (onto_cases r (v ∷ l) x i))
  where
    go : (x : Point) → In x r ⊎ In x (v ∷ l) → (x ≡ v) ⊎ (value m n v < value m n x)
    go x (inl i) = inr (after_all_lem m n pm r v l h.convex kr x i)
    go x (inr (Memᴰ.head e)) = inl e
    go x (inr (Memᴰ.tail i)) = inr (before_all m n pm v l (convex_prefix r (v ∷ l) h.convex) kl x i)

-- The weight is past the breakpoint of v and the vertex before it; it is short of that of v and the vertex after it.
abbrev pub Past : ℕ → ℕ → Point → List Point → Type 0
Past m n v [] = Unit {0}
Past m n v (u ∷ l) = m * rise u v < n * fall u v

abbrev pub Short : ℕ → ℕ → Point → List Point → Type 0
Short m n v [] = Unit {0}
Short m n v (w ∷ r) = n * fall v w < m * rise v w

past_lower : (m n : ℕ) (v : Point) (l : List Point) → Convex (v ∷ l) → Past m n v l → Lower m n v l
past_lower m n v [] h k = tt
past_lower m n v (u ∷ l) h k = omega (arith, gap m n (under_step l h.0))

short_lower : (m n : ℕ) (r : List Point) (v : Point) (l : List Point) → Convex (onto r (v ∷ l)) → Short m n v r → Lower m n v r
short_lower m n [] v l h k = tt
short_lower m n (w ∷ r) v l h k = omega (arith, gap m n (under_step l (convex_prefix r (w ∷ v ∷ l) h).0))

-- Strictly between its two breakpoints a vertex is Best.
pub stretch_best : (m n : ℕ) → 0 < m → 0 < n → {Q : List Point} (r : List Point) (v : Point) (l : List Point)
    → IsHull Q (onto r (v ∷ l)) → Short m n v r → Past m n v l → Best m n v Q
stretch_best m n pm pn r v l h kr kl =
    lower_best m n pm pn r v l h (short_lower m n r v l h.convex kr) (past_lower m n v l (convex_prefix r (v ∷ l) h.convex) kl)
