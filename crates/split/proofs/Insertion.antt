-- Pushing a point on a hull, and inserting one anywhere, in any order, gives the hull of one point more.
-- Assumes nothing.
use mathlib.Core.Path.{◌≡◌, refl, ◌∙◌}
use mathlib.Core.List.Memᴰ
use mathlib.Core.List.{List, [], ◌∷◌}
use Prim.Native.Nat.{ℕ, ◌≤◌, ◌<◌}
use native.Mathlib.Nat.{mul-le-mul_left, le_of_mul-le-mul_left}
use native.Mathlib.Decide.{dec_le, dec_lt}
use native.Mathlib.Omega.{arith}
use Rattle.split.specs.Hull.{Point, value, RightBelow, Bends, Beats, In, Sub, Under, Convex, IsHull}
use Rattle.split.specs.SplitOf.{Hides, hides?, under?, push, insert, build}
use Rattle.split.proofs.Choices.{pick_case, by_dec, pick_yes, pick_no}
use Rattle.split.proofs.HullLaws.{under_step, grow, own, covers_one, covers_cons, self, sub_cons, members}
use Rattle.split.proofs.Points.{flat, beats_less, beats_down}

-- Its three ways, as equations.
pub push_hides : (x u : Point) (l : List Point) → Hides u x → push x (u ∷ l) ≡ u ∷ l
unfolding push
push_hides x u l h = pick_yes (hides? u x) _ _ h

pub push_stands : (x u : Point) (l : List Point) → ¬ Hides u x → Under x (u ∷ l) → push x (u ∷ l) ≡ x ∷ u ∷ l
unfolding push
push_stands x u l h k = pick_no (hides? u x) _ _ h ∙ pick_yes (under? x (u ∷ l)) _ _ k

pub push_drops : (x u : Point) (l : List Point) → ¬ Hides u x → ¬ Under x (u ∷ l) → push x (u ∷ l) ≡ push x l
unfolding push
push_drops x u l h k = pick_no (hides? u x) _ _ h ∙ pick_no (under? x (u ∷ l)) _ _ k

pub push_empty : (x : Point) → push x [] ≡ x ∷ []
unfolding push
push_empty x = refl

hidden : (u x : Point) → u.a ≤ x.a → Hides u x → (m n : ℕ) → 0 < m → 0 < n → Beats m n u x
hidden u x h k m n pm pn =
    record {
      low = omega (arith, mul-le-mul_left m h, mul-le-mul_left n k.0);
      then_c = λ e. k.0;
      then_order = λ e f. k.1 f (le_of_mul-le-mul_left {k = m} (omega (arith, mul-le-mul_left n k.0)) pm);
    }

-- Of two points at one height, neither hidden by u: x is at u's place, with the lower order.
pub same_place : (u x : Point) → ¬ Hides u x → u.c ≤ x.c → (x.c ≤ u.c) × (x.a ≤ u.a) × (x.order < u.order)
same_place u x h k = (
  by_dec (dec_le x.c u.c) (λ g. h (k, λ e f. absurd (g e))),
  by_dec (dec_le x.a u.a) (λ g. h (k, λ e f. absurd (g f))),
  by_dec (dec_lt x.order u.order) (λ g. h (k, λ e f. omega arith)),
)

not_lt : {x y : ℕ} → ¬ (x < y) → y ≤ x
not_lt h = omega arith

lost : (x u : Point) (l : List Point) → Convex (u ∷ l) → u.a ≤ x.a → ¬ Hides u x → ¬ Under x (u ∷ l)
    → (m n : ℕ) → 0 < m → 0 < n → (v : Point) × In v (x ∷ l) × Beats m n v u
lost x u l cv ua nh nu m n pm pn = height (dec_lt x.c u.c)
  where
    there : Beats m n x u → (v : Point) × In v (x ∷ l) × Beats m n v u
    there b = (x, Memᴰ.head refl, b)

    level : (x.c ≤ u.c) × (x.a ≤ u.a) × (x.order < u.order) → Beats m n x u
    level s = record { low = omega (arith, mul-le-mul_left m s.1, mul-le-mul_left n s.0); then_c = omega arith; then_order = omega arith }

    bent : (l : List Point) → Convex (u ∷ l) → ¬ Under x (u ∷ l) → RightBelow u x → Dec (value m n u < value m n x) → (v : Point) × In v (x ∷ l) × Beats m n v u
    bent [] cv nu s d = absurd (nu s)
    bent (s ∷ l) cv nu st (yes k) =
        let nt : ¬ Bends s u x = λ t. nu (st, t) in
        (s, Memᴰ.tail (Memᴰ.head refl), beats_less (flat m n (under_step l cv.0) st (omega arith) k))
    bent (s ∷ l) cv nu st (no k) = (x, Memᴰ.head refl, beats_down (omega arith) st.down)

    side : x.c < u.c → Dec (u.a < x.a) → (v : Point) × In v (x ∷ l) × Beats m n v u
    side k (yes j) = bent l cv nu (record { right = j; down = k }) (dec_lt (value m n u) (value m n x))
    side k (no j) = there (beats_down (omega (arith, mul-le-mul_left m (not_lt j), mul-le-mul_left n k)) k)

    height : Dec (x.c < u.c) → (v : Point) × In v (x ∷ l) × Beats m n v u
    height (yes k) = side k (dec_lt u.a x.a)
    height (no k) = there (level (same_place u x nh (omega arith)))

-- The highest a of a convex list is its head's.
most_right : (v u : Point) (l : List Point) → Convex (u ∷ l) → In v (u ∷ l) → v.a ≤ u.a
most_right v u l h (Memᴰ.head e) = rw e (omega arith)
most_right v u [] h (Memᴰ.tail i) = elim i [ ]
most_right v u (s ∷ l) h (Memᴰ.tail i) = omega (arith, most_right v s l h.1 i, under_step l h.0)

pub convex_right : (u : Point) (l : List Point) → Convex (u ∷ l) → (v : Point) → In v (u ∷ l) → v.a ≤ u.a
convex_right u l h v i = most_right v u l h i

pub pushed : (x : Point) (l : List Point) → Convex l → ((v : Point) → In v l → v.a ≤ x.a) → IsHull (x ∷ l) (push x l)
unfolding push
pushed x [] h k = own (x ∷ []) (tt, tt)
pushed x (u ∷ l) h k =
    pick_case (λ r. IsHull (x ∷ u ∷ l) r) (hides? u x)
    (λ hu. grow (λ v i. Memᴰ.tail i) (covers_cons (covers_one λ m n pm pn. (u, Memᴰ.head refl, hidden u x ua hu m n pm pn)) (self λ v i. i)) (own (u ∷ l) h))
    (λ nh.
    pick_case (λ r. IsHull (x ∷ u ∷ l) r) (under? x (u ∷ l))
    (λ un. own (x ∷ u ∷ l) (un, h))
    (λ nu. grow (sub_cons λ v i. Memᴰ.tail i)
    (covers_cons (self only) (covers_cons (covers_one (lost x u l h ua nh nu)) (self λ v i. Memᴰ.tail i)))
    (pushed x l h.1 (λ v i. k v (Memᴰ.tail i)))))
  where
    ua : u.a ≤ x.a
    ua = k u (Memᴰ.head refl)

    only : Sub (x ∷ []) (x ∷ l)
    only v (Memᴰ.tail x7) = elim x7 [ ]
    only v (Memᴰ.head e) = Memᴰ.head e

-- 1. Push: x is as far right as every listed vertex.
pub push_hull : (x : Point) {Q l : List Point} → IsHull Q l → ((v : Point) → In v l → v.a ≤ x.a) → IsHull (x ∷ Q) (push x l)
push_hull x {Q} {l} h k = members h (pushed x l h.convex k)

swap : {x p : Point} {l : List Point} → Sub (x ∷ p ∷ l) (p ∷ x ∷ l)
swap v (Memᴰ.head e) = Memᴰ.tail (Memᴰ.head e)
swap v (Memᴰ.tail (Memᴰ.head e)) = Memᴰ.head e
swap v (Memᴰ.tail (Memᴰ.tail i)) = Memᴰ.tail (Memᴰ.tail i)

pub inserted : (p : Point) (l : List Point) → Convex l → IsHull (p ∷ l) (insert p l)
unfolding insert
inserted p [] h = own (p ∷ []) (tt, tt)
inserted p (u ∷ l) h =
    pick_case (λ r. IsHull (p ∷ u ∷ l) r) (dec_le u.a p.a)
    (λ le. pushed p (u ∷ l) h (λ v i. omega (arith, convex_right u l h v i)))
    (λ gt. grow swap (self swap) (push_hull u (inserted p l h.1) (λ v i. left gt ((inserted p l h.1).sub v i))))
  where
    left : ¬ (u.a ≤ p.a) → {v : Point} → In v (p ∷ l) → v.a ≤ u.a
    left gt (Memᴰ.head e) = rw e (omega arith)
    left gt {v} (Memᴰ.tail i) = convex_right u l h v (Memᴰ.tail i)

-- 4. Insert, in any order.
pub insert_hull : (p : Point) {Q l : List Point} → IsHull Q l → IsHull (p ∷ Q) (insert p l)
insert_hull p {Q} {l} h = members h (inserted p l h.convex)

pub build_hull : (Q : List Point) → IsHull Q (build Q)
unfolding build
build_hull [] = own [] tt
build_hull (p ∷ Q) = insert_hull p (build_hull Q)
