-- The right-hand side of a leg: the two sides of the form in natural numbers differ by the cross product as document 02
-- writes it, on the signed coordinates of commands.
-- Assumes nothing.
use mathlib.Core.Path.{◌≡◌, ap, subst, subst⁻¹}
use mathlib.Core.Bool.{Bool, true, false, cond, not}
use Prim.Native.Nat.{ℕ, zero, suc, ◌+◌, ◌*◌, ◌-◌, ◌%◌, ◌^◌, ◌≤◌, ◌<◌}
use native.Mathlib.Omega.{arith}
use lib.Dec.{T, ltb, ltb→lt, nltb→le}
use lib.IntN.{ℤ, pos, negsuc, neg_ℤ, sub_ℕ, ◌+ℤ◌, ◌-ℤ◌, ◌*ℤ◌}
use lib.Signed.{◌<ℤ◌, lt_z_yes}
use mir.Syntax.{w16}
use mir.Val.{sel, to_z}
use Rattle.limits.specs.Limits.{half_width, grid_width}
use Rattle.grid.specs.declared.Position.{Position}
use Rattle.grid.specs.declared.Leg.{Leg}
use Rattle.grid.specs.Position.{OnGrid}
use Rattle.grid.specs.Coordinate.{from_word, word_position}
use Rattle.grid.specs.Side.{cross_plus, cross_minus, OnTheRight, cross_product, signed_of, signed_words, way_back}

-- z is a less b
abbrev IsLess : ℤ → ℕ → ℕ → Type 0
IsLess (pos n) a b = a ≡ n + b
IsLess (negsuc n) a b = b ≡ suc n + a

-- the same, from which the numbers can be read off
record Difference (z : ℤ) (a b : ℕ) : Type 0 where
  is : IsLess z a b

-- the difference of two natural numbers
natural : (a b : ℕ) → IsLess (sub_ℕ a b) a b
natural a b = go (ltb a b) (λ t. ltb→lt a b t) (λ t. nltb→le a b t)
  where
    go : (t : Bool) → (T t → a < b) → (T (not t) → b ≤ a) → IsLess (cond t (negsuc (b - suc a)) (pos (a - b))) a b
    go true h k = let l = h tt in omega arith
    go false h k = let l = k tt in omega arith

-- differences that are equal
same : (z : ℤ) (a b c d : ℕ) → IsLess z a b → a + d ≡ b + c → IsLess z c d
same (pos n) a b c d h e = omega arith
same (negsuc n) a b c d h e = omega arith

negated : (z : ℤ) (a b : ℕ) → IsLess z a b → IsLess (neg_ℤ z) b a
negated (pos zero) a b h = omega arith
negated (pos (suc n)) a b h = omega arith
negated (negsuc n) a b h = omega arith

sum : (y z : ℤ) (a b c d : ℕ) → IsLess y a b → IsLess z c d → IsLess (y +ℤ z) (a + c) (b + d)
sum (pos m) (pos n) a b c d h k = omega arith
sum (pos m) (negsuc n) a b c d h k = same (sub_ℕ m (suc n)) _ _ _ _ (natural m (suc n)) (omega arith)
sum (negsuc m) (pos n) a b c d h k = same (sub_ℕ n (suc m)) _ _ _ _ (natural n (suc m)) (omega arith)
sum (negsuc m) (negsuc n) a b c d h k = omega arith

times : (y z : ℤ) (a b c d : ℕ) → IsLess y a b → IsLess z c d → IsLess (y *ℤ z) (a * c + b * d) (a * d + b * c)
times (pos m) (pos n) a b c d h k = rw (h, k) (omega arith)
times (pos m) (negsuc n) a b c d h k = negated (pos (m * suc n)) _ _ (rw (h, k) (omega arith))
times (negsuc m) (pos n) a b c d h k = negated (pos (suc m * n)) _ _ (rw (h, k) (omega arith))
times (negsuc m) (negsuc n) a b c d h k = rw (h, k) (omega arith)

subtracted : {y z : ℤ} {a b c d : ℕ} → Difference y a b → Difference z c d → Difference (y -ℤ z) (a + d) (b + c)
subtracted {y} {z} h k = record { is = sum y (neg_ℤ z) _ _ _ _ h.is (negated z _ _ k.is) }

multiplied : {y z : ℤ} {a b c d : ℕ} → Difference y a b → Difference z c d → Difference (y *ℤ z) (a * c + b * d) (a * d + b * c)
multiplied {y} {z} h k = record { is = times y z _ _ _ _ h.is k.is }

-- "is below zero"
below_zero : (z : ℤ) (a b : ℕ) → IsLess z a b → (z <ℤ pos 0 → a < b) × (a < b → z <ℤ pos 0)
below_zero (pos n) a b h = (λ l. absurd (omega (arith, ltb→lt n 0 l.lt)), λ l. absurd (omega arith))
below_zero (negsuc n) a b h = (λ l. omega arith, λ l. lt_z_yes tt)

-- a coordinate, counted from the grid's middle
counted : (x : ℕ) → Difference (pos x -ℤ pos half_width) x half_width
counted x = record { is = natural x half_width }

-- the difference of two coordinates
across : (x y : ℕ) → Difference ((pos x -ℤ pos half_width) -ℤ (pos y -ℤ pos half_width)) (x + half_width) (half_width + y)
across x y = subtracted (counted x) (counted y)

-- a difference is one integer
one_difference : (y z : ℤ) (a b : ℕ) → IsLess y a b → IsLess z a b → y ≡ z
one_difference (pos m) (pos n) a b h k = ap pos (omega arith)
one_difference (pos m) (negsuc n) a b h k = absurd (omega arith)
one_difference (negsuc m) (pos n) a b h k = absurd (omega arith)
one_difference (negsuc m) (negsuc n) a b h k = ap negsuc (omega arith)

whole : (x : ℕ) → Difference (pos x) x 0
whole x = record { is = omega arith }

-- the difference of two natural numbers as integers
written : (x y : ℕ) → Difference (pos x -ℤ pos y) (x + 0) (0 + y)
written x y = subtracted (whole x) (whole y)

-- THE CROSS PRODUCT multiplied out is the difference of the two sides
pub cross_is : (l : Leg) (p : Position)
    → cross_product (signed_of l.s) (signed_of l.e) (signed_of p) ≡ pos (cross_plus l p) -ℤ pos (cross_minus l p)
cross_is l p =
    let first = multiplied (across l.e.east l.s.east) (across p.north l.s.north) in
    let second = multiplied (across l.e.north l.s.north) (across p.east l.s.east) in
    let z = cross_product (signed_of l.s) (signed_of l.e) (signed_of p) in
    one_difference z _ (cross_plus l p + 0) (0 + cross_minus l p)
    (same z _ _ _ _ (subtracted first second).is (omega arith)) (written (cross_plus l p) (cross_minus l p)).is

-- RIGHT OF THE LEG exactly where the cross product "is below zero"
pub right_by_cross : (l : Leg) (p : Position)
    → (OnTheRight l p → cross_product (signed_of l.s) (signed_of l.e) (signed_of p) <ℤ pos 0)
    × (cross_product (signed_of l.s) (signed_of l.e) (signed_of p) <ℤ pos 0 → OnTheRight l p)
unfolding OnTheRight
right_by_cross l p =
    let b = below_zero (pos (cross_plus l p) -ℤ pos (cross_minus l p)) _ _ (written (cross_plus l p) (cross_minus l p)).is in (
      λ h. subst⁻¹ (λ (z : ℤ). z <ℤ pos 0) (cross_is l p) (b.1 (omega arith)),
      λ h. let k = b.0 (subst (λ (z : ℤ). z <ℤ pos 0) (cross_is l p) h) in omega arith,
    )

-- a coordinate on the grid is the signed number that its word stands for
word_is : (w : ℕ) → w < 65536 → from_word w ≤ grid_width → IsLess (to_z w16 w) (from_word w) half_width
unfolding from_word
word_is w h k = go (ltb w (2 ^ 15)) (λ t. ltb→lt w (2 ^ 15) t) (λ t. nltb→le w (2 ^ 15) t)
  where
    go : (t : Bool) → (T t → w < 2 ^ 15) → (T (not t) → 2 ^ 15 ≤ w)
        → IsLess (sel t (pos w) (negsuc (2 ^ 16 - suc w))) ((w + half_width) % 65536) half_width
    go true f g = let l = f tt in omega arith
    go false f g = let l = g tt in omega arith

signed_word : (w : ℕ) → w < 65536 → from_word w ≤ grid_width → pos (from_word w) -ℤ pos half_width ≡ to_z w16 w
signed_word w h k = one_difference _ _ (from_word w) half_width (natural (from_word w) half_width) (word_is w h k)

-- A POSITION ON THE GRID, counted from its middle, has the signed numbers of its words
pub signed_words_lem : (e n : ℕ) → e < 65536 → n < 65536 → OnGrid (word_position e n) → signed_of (word_position e n) ≡ signed_words e n
signed_words_lem e n he hn g = λ i. record { east = signed_word e he g.east i; north = signed_word n hn g.north i }

-- nothing is on the right of a leg of no length
pub no_length : (p q : Position) → OnTheRight (record { s = p; e = p }) q → ⊥
unfolding OnTheRight
no_length p q h = omega arith

-- what is on the right is not on the right of the leg turned round
pub turned_round : (l : Leg) (p : Position) → OnTheRight l p → OnTheRight (way_back l) p → ⊥
unfolding OnTheRight
turned_round l p h k = omega arith
