-- What a walk tests at the root.
-- Assumes nothing.
use mathlib.Core.Bool.{Bool, true, false}
use mathlib.Core.List.{List}
use mathlib.Core.Path.{◌≡◌, refl}
use Prim.Native.Nat.{ℕ, ◌+◌, ◌≤◌, ◌<◌}
use native.Mathlib.Omega.{arith}
use lib.ListN.{length, get_or, set}
use Rattle.limits.specs.Limits.{max_nodes, max_levels}
use Rattle.grid.specs.Says.{Says}
use Rattle.grid.proofs.Says.{says_yes, says_no}
use Rattle.std.specs.Prelude.{Option, None, Some}
use Rattle.tree_node.specs.declared.Top.{Top}
use Rattle.tree_node.specs.Header.{root_in}
use Rattle.tree_node.specs.Node.{entries}
use Rattle.tree_node.specs.Tally.{total, hit}
use Rattle.tree_node.specs.Told.{Told}
use Rattle.tree_node.proofs.Counting.{hit_same}
use Rattle.tree_node.proofs.Reading.{eight}
use Rattle.tree_node.proofs.Telling.{told_yes, told_no, told_map}
use Rattle.tree_rules.specs.Tree.{leaves_at, nodes_at, Each}
use Rattle.tree_rules.specs.Rooted.{tree_leaves, tree_nodes, RootNode, RootSound}
use Rattle.tree_check.specs.Marks.{seen_bytes, Fresh, Marked, Bits, Prepared}
use Rattle.tree_check.specs.Walk.{asked_for, met, Pass, Enough, Low, root_met, RootPass}
use Rattle.tree_check.proofs.Marking.{marked_both, fresh_then, fresh_both, marked_set, fresh_at, fresh_none, marked_none}

-- no tree, and a tree
pub root_none : (b : List ℕ) (o : List ℕ) (r : Option Top) → Prepared b o → r ≡ None → r ≡ root_in b → Told true (RootPass b (root_in b) o) (Marked (root_met b (root_in b)) o o)
unfolding RootSound tree_leaves tree_nodes root_met asked_for total Low Each
root_none b o r s q z =
    rw (← z, q)
    (told_yes
    (record { top = tt; low = tt; known = tt; fresh = fresh_none o (root_met b None) (λ m. refl) s.bits })
    (marked_none o (root_met b None) (λ m. refl)))

pub root_top : (b : List ℕ) (x : Top) (o o₁ : List ℕ) (r : Option Top) (u : Bool) → r ≡ Some x → r ≡ root_in b
    → Told u (RootPass b (Some x) o) (Marked (root_met b (Some x)) o o₁) → Told u (RootPass b (root_in b) o) (Marked (root_met b (root_in b)) o o₁)
root_top b x o o₁ r u q z t = rw (← z, q) t

-- the root, as the code reads it
module _ (b : List ℕ) (root : Top) (o : List ℕ) where
  top_node : RootPass b (Some root) o → RootNode (entries b) root.height root.node
  unfolding RootSound
  top_node p = p.top

  met_top : (m : ℕ) → root_met b (Some root) m ≡ hit m root.node + met b root.height (entries b root.node) m
  unfolding root_met met asked_for tree_nodes tree_leaves nodes_at leaves_at total
  met_top m = omega arith

  pub top_high : {B : Type 0} → max_levels ≤ root.height → Told false (RootPass b (Some root) o) B
  unfolding Low
  top_high le = told_no (λ p. let l : root.height + 1 ≤ max_levels = p.low in omega arith)

  pub top_far : {B : Type 0} → max_nodes ≤ root.node → Told false (RootPass b (Some root) o) B
  top_far le = told_no (λ p. omega (arith, (top_node p).id))

  pub top_few : {C : Type 0} (r : Bool) → Says r (Enough b root.height root.node) → r ≡ false → Told false (RootPass b (Some root) o) C
  top_few r t z = told_no (λ p. says_no r t z (record { two = (top_node p).two; one = (top_node p).one }))

  pub top_met : {B C : Type 0} (r : Bool) → root.node < max_nodes → Told r (get_or o root.node 0 ≡ 0) B → r ≡ false → Told false (RootPass b (Some root) o) C
  top_met r lt t z =
      told_no
      (λ p.
      t.no z
      (fresh_at
      (root_met b (Some root))
      o
      root.node
      (omega arith)
      (omega (arith, met_top root.node, hit_same root.node root.node refl))
      p.fresh))

  pub top_told : (r v u : Bool) (o₁ o₂ : List ℕ) → length o ≡ seen_bytes → root.height < max_levels → root.node < max_nodes → Says r (Enough b root.height root.node) → r ≡ true
      → Told v (get_or o root.node 0 ≡ 0) (o₁ ≡ set o root.node 1) → v ≡ true
      → Told u (Pass b root.height (entries b root.node) o₁) (Marked (met b root.height (entries b root.node)) o₁ o₂)
      → Told u (RootPass b (Some root) o) (Marked (root_met b (Some root)) o o₂)
  unfolding RootSound tree_leaves leaves_at Low
  top_told r v u o₁ o₂ len low lt a y t w p =
      let z = t.yes w in
      let k = says_yes r a y in
      let one : Marked (λ m. hit m root.node) o o₁ = marked_set o o₁ root.node len (omega arith) z.0 z.1 in
      told_map
      (λ (x : Pass b root.height (entries b root.node) o₁).
      record {
        top = record { id = lt; two = k.two; one = k.one; most = eight b root.node; below = x.sound };
        low = omega arith;
        known = x.known;
        fresh = fresh_both (λ m. hit m root.node) (met b root.height (entries b root.node)) (root_met b (Some root)) o o₁ met_top one x.fresh;
      })
      (λ (x : RootPass b (Some root) o).
      record {
        sound = (top_node x).below;
        known = x.known;
        fresh = fresh_then (λ m. hit m root.node) (met b root.height (entries b root.node)) (root_met b (Some root)) o o₁ met_top one x.fresh;
      })
      (marked_both (λ m. hit m root.node) (met b root.height (entries b root.node)) (root_met b (Some root)) o o₁ o₂ met_top one)
      p

-- the marks after the tree
pub bits_next : (b : List ℕ) (o o₁ : List ℕ) (s : Option Top) (r : Bool) → Told r (RootPass b s o) (Marked (root_met b s) o o₁) → r ≡ true → Bits o₁
unfolding Bits Fresh Marked
bits_next b o o₁ s r t y m lt = let z = t.yes y in omega (arith, z.0.fresh m lt, z.1 m lt)
