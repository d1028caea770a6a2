-- The hull of a set: what may join the set, and that the hull's own members suffice.
-- Assumes nothing.
use mathlib.Core.List.Memᴰ
use mathlib.Core.List.{List, [], ◌∷◌}
use Prim.Native.Nat.{ℕ, ◌<◌}
use Rattle.split.specs.Hull.{Point, RightBelow, Beats, In, Sub, Covers, Under, Convex, IsHull}
use Rattle.split.proofs.Points.{beats_refl, beats_trans}

pub under_step : {v u : Point} (l : List Point) → Under v (u ∷ l) → RightBelow u v
under_step [] h = h
under_step (s ∷ l) h = h.0

-- The one law of change: Q may grow by points that Q covers.
pub grow : {Q R l : List Point} → Sub Q R → Covers Q R → IsHull Q l → IsHull R l
grow s k h =
    record {
      convex = h.convex;
      sub = λ v i. s v (h.sub v i);
      covers = λ m n pm pn r i.
          let (q, iq, bq) = k m n pm pn r i in
          let (v, iv, bv) = h.covers m n pm pn q iq in
          (v, iv, beats_trans bv bq);
    }

-- A convex list is the split list of its own members.
pub own : (l : List Point) → Convex l → IsHull l l
own l h = record { convex = h; sub = λ v i. i; covers = λ m n pm pn q i. (q, i, beats_refl q) }

pub covers_one : {p : Point} {Q : List Point} → ((m n : ℕ) → 0 < m → 0 < n → (v : Point) × In v Q × Beats m n v p) → Covers Q (p ∷ [])
covers_one {p = p} {Q = Q} h m n pm pn q (Memᴰ.tail x4) = elim x4 [ ]
covers_one h m n pm pn q (Memᴰ.head e) = rw e (h m n pm pn)

pub covers_cons : {p : Point} {Q R : List Point} → Covers Q (p ∷ []) → Covers Q R → Covers Q (p ∷ R)
covers_cons {p} {Q} {R} h k m n pm pn q i = go i
  where
    go : In q (p ∷ R) → (v : Point) × In v Q × Beats m n v q
    go (Memᴰ.head e) = h m n pm pn q (Memᴰ.head e)
    go (Memᴰ.tail j) = k m n pm pn q j

pub self : {Q R : List Point} → Sub R Q → Covers Q R
self s m n pm pn q i = (q, s q i, beats_refl q)

pub sub_cons : {p : Point} {Q R : List Point} → Sub Q R → Sub (p ∷ Q) (p ∷ R)
sub_cons s v (Memᴰ.head e) = Memᴰ.head e
sub_cons s v (Memᴰ.tail i) = Memᴰ.tail (s v i)

-- Members suffice.
pub members : {p : Point} {Q l r : List Point} → IsHull Q l → IsHull (p ∷ l) r → IsHull (p ∷ Q) r
members {p} {Q} {l} {r} h k =
    grow
    (sub_cons h.sub)
    (covers_cons (self (λ v i. one v i)) (λ m n pm pn q i. let (v, iv, bv) = h.covers m n pm pn q i in (v, Memᴰ.tail iv, bv)))
    k
  where
    one : (v : Point) → In v (p ∷ []) → In v (p ∷ l)
    one v (Memᴰ.tail x4) = elim x4 [ ]
    one v (Memᴰ.head e) = Memᴰ.head e
