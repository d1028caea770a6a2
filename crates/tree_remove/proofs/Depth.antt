-- A tree has at least as many nodes as levels, so that its height fits in the header whatever it holds.
-- Assumes nothing.
use mathlib.Core.Path.{◌≡◌}
use mathlib.Core.List.{List, [], ◌∷◌}
use Prim.Native.Nat.{ℕ, zero, suc, ◌≤◌}
use native.Mathlib.Omega.{arith}
use lib.ListN.{length, length-append}
use Rattle.limits.specs.Limits.{table_bytes}
use Rattle.tree_node.specs.declared.NodeEntry.{NodeEntry}
use Rattle.std.specs.Prelude.{Option, None, Some}
use Rattle.tree_node.specs.declared.Top.{Top}
use Rattle.tree_node.specs.Node.{entries}
use Rattle.tree_node.specs.Header.{SmallRoot}
use Rattle.tree_rules.specs.Tree.{Store, joined, nodes, nodes_at, Each, SoundUnder}
use Rattle.tree_rules.specs.Rooted.{tree_nodes, Rooted}
use Rattle.tree_rules.proofs.Every.{each_map}
use Rattle.tree_rules.proofs.Roots.{root_node}
use Rattle.tree_remove.specs.Removal.{TakenFrom}

first_many : (k : ℕ) (F : NodeEntry → List ℕ) (l : List NodeEntry) → 1 ≤ length l → Each (λ e. k ≤ length (F e)) l → k ≤ length (joined F l)
unfolding Each joined
first_many k F [] some p = absurd (omega arith)
first_many k F (e ∷ l) some p = omega (arith, p.0, length-append (F e) (joined F l))

-- under an entry at height h there are at least h nodes
deep : (E : Store) (h : ℕ) (e : NodeEntry) → SoundUnder E h e → h ≤ length (nodes E h e)
unfolding SoundUnder nodes
deep E zero e s = omega arith
deep E (suc h) e s =
    omega (
      arith,
      first_many
          h
          (nodes E h)
          (E e.reference)
          (omega (arith, s.least))
          (each_map (SoundUnder E h) (λ d. h ≤ length (nodes E h d)) (deep E h) (E e.reference) s.below),
    )

pub root_small : (r : Option Top) (b : List ℕ) → Rooted r b → SmallRoot r
unfolding SmallRoot tree_nodes nodes_at
root_small None b rt = tt
root_small (Some x) b rt =
    let g : ℕ = x.height in
    let n : ℕ = x.node in
    let t = root_node g n b rt in
    let E : Store = entries b in
    let many : g ≤ length (joined (nodes E g) (E n)) =
    first_many g (nodes E g) (E n) t.one (each_map (SoundUnder E g) (λ d. g ≤ length (nodes E g d)) (deep E g) (E n) t.below) in
    (omega (arith, rt.all), omega (arith, t.id))

-- so the tree that is left can be stored
module _ (r s : Option Top) (e : NodeEntry) (b b₁ : List ℕ) (up : TakenFrom r e s b b₁) where
  pub remove_len : length b₁ ≡ table_bytes
  remove_len = up.rooted.len

  pub remove_small : SmallRoot s
  remove_small = root_small s b₁ up.rooted
