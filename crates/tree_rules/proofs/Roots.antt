-- The whole tree: what a sound root gives, and when a changed one is sound again.
-- Assumes nothing.
use mathlib.Core.Path.{◌≡◌, ◌∙◌}
use mathlib.Core.List.{List}
use mathlib.Core.Logic.{⊎_elim}
use Prim.Native.Nat.{ℕ, ◌+◌, ◌*◌, ◌^◌, ◌≤◌, ◌<◌}
use native.Mathlib.Omega.{arith}
use native.Mathlib.Nat.{mul-le-mul_right}
use lib.ListN.{length}
use Rattle.limits.specs.Limits.{max_sites, max_levels}
use Rattle.std.specs.Prelude.{Option, None, Some}
use Rattle.tree_node.specs.declared.Top.{Top}
use Rattle.tree_node.specs.Node.{entries}
use Rattle.tree_node.specs.Free.{free}
use Rattle.tree_node.specs.Header.{top, SmallRoot}
use Rattle.tree_node.specs.Tally.{total, hit, Within}
use Rattle.tree_node.proofs.Counting.{le_or_lt, total_one}
use Rattle.tree_rules.specs.Tree.{joined, leaves, nodes, leaves_at, nodes_at, SoundUnder}
use Rattle.tree_rules.specs.Rooted.{tree_leaves, tree_nodes, RootNode, RootSound, Rooted}
use Rattle.tree_rules.specs.Change.{Ready}
use Rattle.tree_rules.proofs.Every.{each_map}
use Rattle.tree_rules.proofs.Levels.{each_sum, each_many, few_nodes, many_leaves, power_big}

-- a sound root
module _ (g n : ℕ) (b : List ℕ) (rt : Rooted (top g n) b) where
  pub root_node : RootNode (entries b) g n
  unfolding RootSound
  root_node = rt.top

  pub root_ready : Ready g n b
  unfolding tree_nodes Within
  root_ready =
      record {
        len = rt.len;
        id = root_node.id;
        sound = root_node.below;
        apart = rt.apart;
        within = λ m z. rt.within m (omega arith);
      }

  -- nodes are at most half as many as leaf entries
  pub root_few : 2 * length (joined (nodes (entries b) g) (entries b n)) + length (entries b n) ≤ length (leaves_at (entries b) g n)
  unfolding leaves_at
  root_few =
      each_sum
      (nodes (entries b) g)
      (leaves (entries b) g)
      (entries b n)
      (each_map
      (SoundUnder (entries b) g)
      (λ d. 2 * length (nodes (entries b) g d) + 1 ≤ length (leaves (entries b) g d))
      (few_nodes (entries b) g)
      (entries b n)
      root_node.below)

  root_many : length (entries b n) * 3 ^ g ≤ length (leaves_at (entries b) g n)
  unfolding leaves_at
  root_many =
      each_many
      (3 ^ g)
      (leaves (entries b) g)
      (entries b n)
      (each_map (SoundUnder (entries b) g) (λ d. 3 ^ g ≤ length (leaves (entries b) g d)) (many_leaves (entries b) g) (entries b n) root_node.below)

  -- "a tree of h levels holds at least 2 × 3^(h-1) sites when h is at least 2": h is g + 1
  pub root_sites : (g ≡ 0 → ⊥) → 2 * 3 ^ g ≤ length (tree_leaves (entries b) (top g n))
  unfolding tree_leaves
  root_sites z = omega (arith, root_many, mul-le-mul_right (3 ^ g) (root_node.two z))

  -- "There are at most six levels": the root's entries stand at height 5 at most
  pub root_levels : length (tree_leaves (entries b) (top g n)) ≤ max_sites → g + 1 ≤ max_levels
  unfolding tree_leaves
  root_levels le =
      ⊎_elim
      (λ (l : g ≤ 5). omega arith)
      (λ (l : 5 < g). absurd (omega (arith, power_big g l, root_many, mul-le-mul_right (3 ^ g) root_node.one)))
      (le_or_lt g 5)

  -- a free node for each level, and two more
  pub root_free : length (tree_leaves (entries b) (top g n)) < max_sites → g + 2 ≤ length (free b)
  unfolding tree_leaves tree_nodes nodes_at
  root_free le = omega (arith, root_levels (omega arith), root_few, rt.all)

-- a tree of at most so many sites fits in the header
pub rooted_small : (r : Option Top) (b : List ℕ) → Rooted r b → length (tree_leaves (entries b) r) ≤ max_sites → SmallRoot r
unfolding SmallRoot
rooted_small None b rt le = tt
rooted_small (Some x) b rt le = (omega (arith, root_levels x.height x.node b rt le), omega (arith, (root_node x.height x.node b rt).id))

-- each node is once in the tree or once free, as before
pub rooted_by : (r r' : Option Top) (b b' : List ℕ) → Rooted r b → length b' ≡ length b → RootSound (entries b') r'
    → ((w : ℕ → ℕ) → total w (tree_nodes (entries b') r') + total w (free b') ≡ total w (tree_nodes (entries b) r) + total w (free b)) → Rooted r' b'
rooted_by r r' b b' rt len t ids =
    record {
      len = len ∙ rt.len;
      top = t;
      apart = λ m. omega (arith, rt.apart m, ids (hit m));
      within = λ m z. rt.within m (omega (arith, ids (hit m)));
      all =
          omega (
            arith,
            rt.all,
            ids (λ _. 1),
            total_one (tree_nodes (entries b') r'),
            total_one (free b'),
            total_one (tree_nodes (entries b) r),
            total_one (free b),
          );
    }
