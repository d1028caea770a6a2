-- What stands in a list of entries. Two lists that give the same total for every weight have the same members, so what holds of each of the one
-- holds of each of the other.
-- Assumes nothing.
use mathlib.Core.Path.{◌≡◌, refl, sym, ap, subst}
use mathlib.Core.List.Memᴰ
use mathlib.Core.List.{List, [], ◌∷◌, Memᴰ}
use mathlib.Core.Logic.{⊎_elim}
use Prim.Native.Nat.{ℕ, ◌+◌, ◌-◌, ◌≤◌, ◌<◌}
use native.Mathlib.Omega.{arith}
use lib.ListN.{length}
use Rattle.tree_node.specs.declared.NodeEntry.{NodeEntry}
use Rattle.tree_node.specs.Tally.{total}
use Rattle.tree_node.proofs.Counting.{le_or_lt, total_one}
use Rattle.tree_node.proofs.Telling.{entry_eq}
use Rattle.tree_rules.specs.Tree.{Each}

-- what holds of each of a list holds of what stands in it, and the other way round
pub each_member : (P : NodeEntry → Type 0) (l : List NodeEntry) (e : NodeEntry) → Each P l → Memᴰ e l → P e
unfolding Each
each_member P [] e p m = absurd (Memᴰ.not-nil m)
each_member P (d ∷ l) e p m =
    ⊎_elim
    (λ (q : e ≡ d). subst P (sym q) p.0)
    (λ (r : Memᴰ e l). each_member P l e p.1 r)
    (Memᴰ.cases_cons m)

each_of : (P : NodeEntry → Type 0) (l : List NodeEntry) → ((e : NodeEntry) → Memᴰ e l → P e) → Each P l
unfolding Each
each_of P [] f = tt
each_of P (e ∷ l) f = (f e (Memᴰ.head refl), each_of P l (λ d m. f d (Memᴰ.tail m)))

-- in how much two numbers differ, and two entries
unfoldable apart : ℕ → ℕ → ℕ
apart a b = (a - b) + (b - a)

apart_zero : (a b : ℕ) → apart a b ≡ 0 → a ≡ b
unfolding apart
apart_zero a b h = omega arith

unfoldable differ : NodeEntry → NodeEntry → ℕ
differ x e =
    apart x.reference e.reference + apart x.west e.west + apart x.south e.south + apart x.east e.east
    + apart x.north e.north
    + apart x.spare e.spare

differ_zero : (x e : NodeEntry) → differ x e ≡ 0 → x ≡ e
unfolding differ
differ_zero x e h =
    entry_eq x e
    (apart_zero x.reference e.reference (omega arith))
    (apart_zero x.west e.west (omega arith))
    (apart_zero x.south e.south (omega arith))
    (apart_zero x.east e.east (omega arith))
    (apart_zero x.north e.north (omega arith))
    (apart_zero x.spare e.spare (omega arith))

differ_itself : (x : NodeEntry) → differ x x ≡ 0
unfolding differ apart
differ_itself x = omega arith

-- 1 where e is x, else 0
abbrev counts : NodeEntry → NodeEntry → ℕ
counts x e = 1 - differ x e

total_member : (x : NodeEntry) (l : List NodeEntry) → Memᴰ x l → 0 < total (counts x) l
unfolding total
total_member x [] x'' = elim x'' [ ]
total_member x (e ∷ l) (Memᴰ.head q) = omega (arith, differ_itself x, ap (differ x) q)
total_member x (e ∷ l) (Memᴰ.tail m) = omega (arith, total_member x l m)

member_total : (x : NodeEntry) (l : List NodeEntry) → 0 < total (counts x) l → Memᴰ x l
unfolding total
member_total x [] h = absurd (omega arith)
member_total x (e ∷ l) h =
    ⊎_elim
    (λ (z : counts x e ≤ 0). Memᴰ.tail (member_total x l (omega arith)))
    (λ (z : 0 < counts x e). Memᴰ.head (differ_zero x e (omega arith)))
    (le_or_lt (counts x e) 0)

module _ (a b : List NodeEntry) (same : (w : NodeEntry → ℕ) → total w a ≡ total w b) where
  -- THE SAME MEMBERS
  pub same_member : (x : NodeEntry) → Memᴰ x a → Memᴰ x b
  same_member x m = member_total x b (omega (arith, same (counts x), total_member x a m))

  -- what holds of each of the second holds of each of the first
  pub same_each : (P : NodeEntry → Type 0) → Each P b → Each P a
  same_each P p = each_of P a (λ e m. each_member P b e p (same_member e m))

  -- and they are as long
  pub same_length : length a ≡ length b
  same_length = omega (arith, same (λ _. 1), total_one a, total_one b)
