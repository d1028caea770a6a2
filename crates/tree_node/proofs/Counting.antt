-- Laws of sums over lists, and of what stands in one how often.
-- Assumes nothing.
use mathlib.Core.Path.{◌≡◌, refl, ap}
use mathlib.Core.Bool.{Bool, true, false, cond}
use mathlib.Core.List.{List, [], ◌∷◌, ◌++◌}
use mathlib.Core.Logic.{⊎_elim, ◌⊎◌, inl, inr}
use Prim.Native.Nat.{ℕ, zero, suc, ◌+◌, ◌≤◌, ◌<◌}
use native.Mathlib.Omega.{arith}
use lib.Dec.{eqb}
use lib.ListN.{length}
use borrow.Author.Tests.{eq-eqb, eqb-true, le-leb, lt-leb}
use Rattle.tree_node.specs.Layout.{up_to}
use Rattle.tree_node.specs.Tally.{total, hit, tally, Within}

pub le_or_lt : (a b : ℕ) → (a ≤ b) ⊎ (b < a)
le_or_lt zero b = inl (omega arith)
le_or_lt (suc a) zero = inr (omega arith)
le_or_lt (suc a) (suc b) =
    ⊎_elim (λ (h : a ≤ b). inl (omega arith)) (λ (h : b < a). inr (omega arith)) (le_or_lt a b)

-- a stored count
pub up_to_low : (limit c : ℕ) → c ≤ limit → up_to limit c ≡ c
unfolding up_to
up_to_low limit c h = rw (le-leb c limit h)

pub up_to_high : (limit c : ℕ) → limit < c → up_to limit c ≡ 0
unfolding up_to
up_to_high limit c h = rw (lt-leb c limit h)

pub up_to_most : (limit c : ℕ) → up_to limit c ≤ limit
up_to_most limit c =
    ⊎_elim
    (λ (h : c ≤ limit). omega (arith, up_to_low limit c h))
    (λ (h : limit < c). omega (arith, up_to_high limit c h))
    (le_or_lt c limit)

pub hit_same : (x y : ℕ) → x ≡ y → hit x y ≡ 1
unfolding hit
hit_same x y p = rw (eq-eqb x y p, hit)

pub hit_eq : (x y : ℕ) → 0 < hit x y → x ≡ y
unfolding hit
hit_eq x y h = go (eqb x y) refl h
  where
    go : (t : Bool) → eqb x y ≡ t → 0 < cond t 1 0 → x ≡ y
    go true e h = eqb-true x y e
    go false e h = absurd (omega arith)

pub total_append : {A : Type 0} (w : A → ℕ) (a b : List A) → total w (a ++ b) ≡ total w a + total w b
unfolding total
total_append w [] b = omega arith
total_append w (x ∷ a) b = omega (arith, total_append w a b)

-- with the weight 1, a total is a length
pub total_one : {A : Type 0} (l : List A) → total (λ _. 1) l ≡ length l
unfolding total
total_one [] = refl
total_one (x ∷ l) = omega (arith, total_one l)

pub within_in : (n : ℕ) (l : List ℕ) (m : ℕ) → Within n l → 0 < tally m l → m < n
unfolding Within
within_in n l m w h = w m h

-- s is taken from F: it is in F, and what is not in F is not s
module _ (F F' : List ℕ) (s : ℕ) (p : F ≡ s ∷ F') where
  pub taken_total : (w : ℕ → ℕ) → total w F ≡ w s + total w F'
  unfolding total
  taken_total w = ap (total w) p

  pub taken_in : 0 < tally s F
  taken_in = omega (arith, taken_total (hit s), hit_same s s refl)

  pub taken_not : (c : ℕ) → tally c F ≡ 0 → c ≡ s → ⊥
  taken_not c h q = omega (arith, taken_total (hit c), hit_same c s q)
