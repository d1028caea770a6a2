-- The nodes of a sound tree are those of the pool.
-- Assumes nothing.
use mathlib.Core.List.{List, [], ◌∷◌}
use mathlib.Core.Logic.{⊎_elim}
use Prim.Native.Nat.{ℕ, zero, suc, ◌≤◌, ◌<◌}
use native.Mathlib.Omega.{arith}
use Rattle.limits.specs.Limits.{max_nodes}
use Rattle.tree_node.specs.declared.NodeEntry.{NodeEntry}
use Rattle.std.specs.Prelude.{Option, None, Some}
use Rattle.tree_node.specs.declared.Top.{Top}
use Rattle.tree_node.specs.Tally.{total, hit, tally}
use Rattle.tree_node.proofs.Counting.{hit_eq, le_or_lt}
use Rattle.tree_rules.specs.Tree.{Store, joined, nodes, nodes_at, Each, SoundUnder}
use Rattle.tree_rules.specs.Rooted.{tree_nodes, RootSound}
use Rattle.tree_rules.proofs.Totals.{total_cons}

each_pool : (E : Store) (h : ℕ) (m : ℕ) → ((e : NodeEntry) → SoundUnder E h e → 0 < tally m (nodes E h e) → m < max_nodes) → (l : List NodeEntry) → Each (SoundUnder E h) l → 0 < tally m (joined (nodes E h) l) → m < max_nodes
unfolding Each joined total
each_pool E h m f [] s z = absurd (omega arith)
each_pool E h m f (e ∷ l) s z =
    ⊎_elim
    (λ (none : tally m (nodes E h e) ≤ 0). each_pool E h m f l s.1 (omega (arith, total_cons (hit m) (nodes E h) e l)))
    (λ (some : 0 < tally m (nodes E h e)). f e s.0 some)
    (le_or_lt (tally m (nodes E h e)) 0)

node_pool : (E : Store) (h m c : ℕ) → c < max_nodes → (0 < tally m (joined (nodes E h) (E c)) → m < max_nodes) → 0 < tally m (nodes_at E h c) → m < max_nodes
unfolding nodes_at total
node_pool E h m c lt f z =
    ⊎_elim
    (λ (none : hit m c ≤ 0). f (omega arith))
    (λ (some : 0 < hit m c). omega (arith, hit_eq m c some))
    (le_or_lt (hit m c) 0)

sound_pool : (E : Store) (h m : ℕ) (e : NodeEntry) → SoundUnder E h e → 0 < tally m (nodes E h e) → m < max_nodes
unfolding SoundUnder nodes total nodes_at
sound_pool E zero m e s z = absurd (omega arith)
sound_pool E (suc h) m e s z =
    node_pool E h m e.reference s.id (each_pool E h m (sound_pool E h m) (E e.reference) s.below) z

pub root_pool : (E : Store) (r : Option Top) (m : ℕ) → RootSound E r → 0 < tally m (tree_nodes E r) → m < max_nodes
unfolding RootSound tree_nodes total
root_pool E None m s z = absurd (omega arith)
root_pool E (Some x) m s z = node_pool E x.height m x.node s.id (each_pool E x.height m (sound_pool E x.height m) (E x.node) s.below) z
