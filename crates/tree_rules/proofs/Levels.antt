-- "There are at most six levels", and nodes are at most half as many as leaf entries.
-- Assumes nothing.
use mathlib.Core.List.{List, [], ◌∷◌}
use mathlib.Core.Logic.{⊎_elim}
use mathlib.Core.Path.{◌≡◌}
use Prim.Native.Nat.{ℕ, zero, suc, ◌+◌, ◌*◌, ◌^◌, ◌≤◌, ◌<◌}
use native.Mathlib.Omega.{arith}
use native.Mathlib.Nat.{mul-le-mul_right, eq-or-lt_of_le}
use lib.ListN.{length, length-append}
use Rattle.tree_node.specs.declared.NodeEntry.{NodeEntry}
use Rattle.tree_rules.specs.Tree.{Store, joined, leaves, nodes, Each, SoundUnder}
use Rattle.tree_rules.proofs.Every.{each_map}

pub each_sum : {A B : Type 0} (f : NodeEntry → List A) (g : NodeEntry → List B) (l : List NodeEntry) → Each (λ e. 2 * length (f e) + 1 ≤ length (g e)) l → 2 * length (joined f l) + length l ≤ length (joined g l)
unfolding Each joined
each_sum f g [] p = omega arith
each_sum f g (e ∷ l) p =
    omega (arith, p.0, each_sum f g l p.1, length-append (f e) (joined f l), length-append (g e) (joined g l))

-- under an entry there are at least twice as many leaf entries as nodes, and one more
pub few_nodes : (E : Store) (h : ℕ) (e : NodeEntry) → SoundUnder E h e → 2 * length (nodes E h e) + 1 ≤ length (leaves E h e)
unfolding SoundUnder leaves nodes
few_nodes E zero e s = omega arith
few_nodes E (suc h) e s =
    omega (
      arith,
      s.least,
      each_sum
          (nodes E h)
          (leaves E h)
          (E e.reference)
          (each_map (SoundUnder E h) (λ d. 2 * length (nodes E h d) + 1 ≤ length (leaves E h d)) (few_nodes E h) (E e.reference) s.below),
    )

pub each_many : {A : Type 0} (k : ℕ) (g : NodeEntry → List A) (l : List NodeEntry) → Each (λ e. k ≤ length (g e)) l → length l * k ≤ length (joined g l)
unfolding Each joined
each_many k g [] p = omega arith
each_many k g (e ∷ l) p = omega (arith, p.0, each_many k g l p.1, length-append (g e) (joined g l))

-- under an entry at height h there are at least 3 ^ h leaf entries
pub many_leaves : (E : Store) (h : ℕ) (e : NodeEntry) → SoundUnder E h e → 3 ^ h ≤ length (leaves E h e)
unfolding SoundUnder leaves
many_leaves E zero e s = omega arith
many_leaves E (suc h) e s =
    omega (
      arith,
      mul-le-mul_right (3 ^ h) s.least,
      each_many
          (3 ^ h)
          (leaves E h)
          (E e.reference)
          (each_map (SoundUnder E h) (λ d. 3 ^ h ≤ length (leaves E h d)) (many_leaves E h) (E e.reference) s.below),
    )

pub power_big : (g : ℕ) → 6 ≤ g → 729 ≤ 3 ^ g
power_big zero le = absurd (omega arith)
power_big (suc g) le =
    ⊎_elim
    (λ (q : 6 ≡ suc g). rw (← q) (omega arith))
    (λ (l : 6 < suc g). omega (arith, power_big g (omega arith)))
    (eq-or-lt_of_le le)
