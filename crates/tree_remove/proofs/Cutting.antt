-- A leaf entry is gone from under a node: at a leaf, and above the leaves once the node is repaired.
-- Assumes nothing.
use mathlib.Core.Path.{◌≡◌, refl, ap, ◌∙◌}
use mathlib.Core.List.{List, ◌∷◌}
use Prim.Native.Nat.{ℕ, suc, ◌+◌, ◌≤◌, ◌<◌}
use native.Mathlib.Omega.{arith}
use lib.ListN.{length, get_or}
use Rattle.limits.specs.Limits.{max_nodes, table_bytes}
use Rattle.words.specs.Words.{Only}
use Rattle.words.proofs.Frame.{only_trans}
use Rattle.tree_node.specs.declared.NodeEntry.{NodeEntry}
use Rattle.tree_node.specs.Layout.{pool_start}
use Rattle.tree_node.specs.Node.{entries, no_entry, swap_out, Wrote}
use Rattle.tree_node.specs.Free.{free}
use Rattle.tree_node.specs.Tally.{total, hit, tally}
use Rattle.tree_node.proofs.Counting.{hit_same, total_one}
use Rattle.tree_node.proofs.Storing.{others, in_pool, in_tree}
use Rattle.tree_node.proofs.FreeStack.{free_kept}
use Rattle.tree_rules.specs.Tree.{Store, joined, leaves, nodes, leaves_at, nodes_at, Each, SoundUnder}
use Rattle.permutation.specs.Perm.{Perm}
use Rattle.tree_rules.specs.Change.{Ready}
use Rattle.tree_rules.proofs.Kept.{Agree, kept_leaves, kept_nodes, kept_sound}
use Rattle.tree_rules.proofs.Perms.{perm_each, perm_total, swap_out_perm, length_swap_out}
use Rattle.tree_rules.proofs.Totals.{total_cons, leaves_at_lem, nodes_at_lem, leaves_under, nodes_under}
use Rattle.tree_rules.proofs.Descent.{child, child_ready}
use Rattle.tree_remove.specs.Take.{Prunable, Pruned}
use Rattle.tree_remove.proofs.Renewing.{Parted, Renewed}

-- entry k of node n, f, and the others
module _ (h n k : ℕ) (f : NodeEntry) (b : List ℕ) (lt : k < length (entries b n)) (qf : f ≡ get_or (entries b n) k no_entry) where
  with_others : Perm (entries b n) (f ∷ swap_out (entries b n) k)
  with_others = rw qf (swap_out_perm (entries b n) k lt)

  all_leaves : (w : NodeEntry → ℕ) → total w (leaves_at (entries b) h n) ≡ total w (leaves (entries b) h f) + total w (joined (leaves (entries b) h) (swap_out (entries b n) k))
  all_leaves w =
      leaves_at_lem (entries b) h n (entries b n) refl w
      ∙ perm_total w (leaves (entries b) h) with_others
      ∙ total_cons w (leaves (entries b) h) f (swap_out (entries b n) k)

  all_nodes : (w : ℕ → ℕ) → total w (nodes_at (entries b) h n) ≡ w n + (total w (nodes (entries b) h f) + total w (joined (nodes (entries b) h) (swap_out (entries b n) k)))
  all_nodes w =
      nodes_at_lem (entries b) h n (entries b n) refl w
      ∙ ap
      (λ (x : ℕ). w n + x)
      (perm_total w (nodes (entries b) h) with_others ∙ total_cons w (nodes (entries b) h) f (swap_out (entries b n) k))

  others_sound : Each (SoundUnder (entries b) h) (entries b n) → Each (SoundUnder (entries b) h) (swap_out (entries b n) k)
  unfolding Each
  others_sound s = (perm_each (SoundUnder (entries b) h) with_others s).1

-- f is a leaf entry
pub leaf_cut : (n k : ℕ) (f e : NodeEntry) (b b₁ : List ℕ) → Ready 0 n b → k < length (entries b n) → f ≡ get_or (entries b n) k no_entry → f ≡ e
    → Wrote n (swap_out (entries b n) k) b b₁ → Pruned 0 n e b b₁
unfolding SoundUnder leaves nodes total
leaf_cut n k f e b b₁ rd lt qf q w =
    let E : Store = entries b in
    let L : List NodeEntry = swap_out (entries b n) k in
    let o : Only pool_start table_bytes b b₁ = in_pool rd.id w.only in
    record {
      sound = rw w.here (others_sound 0 n k f b lt qf rd.sound);
      least = omega (arith, ap length w.here, length_swap_out (E n) k lt);
      leaf = λ x. omega (arith, ap x q, leaves_at_lem (entries b₁) 0 n L w.here x, all_leaves 0 n k f b lt qf x);
      ids = λ x. omega (arith, nodes_at_lem (entries b₁) 0 n L w.here x, all_nodes 0 n k f b lt qf x, ap (total x) (free_kept o));
      rest = λ m z. others w.only m (λ (y : m ≡ n). omega (arith, nodes_at_lem E 0 n (E n) refl (hit m), hit_same m n y));
      only = in_tree o;
    }

-- f's child node is searched
module _ (g n k : ℕ) (f : NodeEntry) (b : List ℕ) (op : Prunable (suc g) n b) (lt : k < length (entries b n)) (qf : f ≡ get_or (entries b n) k no_entry) where
  abbrev c : ℕ
  c = f.reference

  abbrev L : List NodeEntry
  L = swap_out (entries b n) k

  rd : Ready (suc g) n b
  rd = op.ready

  at : (w : ℕ → ℕ) → total w (nodes_at (entries b) (suc g) n) ≡ w n + (total w (nodes_at (entries b) g c) + total w (joined (nodes (entries b) (suc g)) L))
  at w = omega (arith, all_nodes (suc g) n k f b lt qf w, ap (total w) (nodes_under (entries b) g f))

  at_leaves : (w : NodeEntry → ℕ) → total w (leaves_at (entries b) (suc g) n) ≡ total w (leaves_at (entries b) g c) + total w (joined (leaves (entries b) (suc g)) L)
  at_leaves w = omega (arith, all_leaves (suc g) n k f b lt qf w, ap (total w) (leaves_under (entries b) g f))

  lengths : suc (length (nodes_at (entries b) g c)) + length (free b) ≤ max_nodes
  lengths =
      omega (
        arith,
        at (λ _. 1),
        total_one (nodes_at (entries b) (suc g) n),
        total_one (nodes_at (entries b) g c),
        op.fits,
      )

  pub child_open : Prunable g c b
  child_open =
      record {
        ready = child_ready g n k b f rd lt qf;
        least = λ _. omega (arith, (child g n k b f rd lt qf).least);
        fits = omega (arith, lengths);
      }

  module _ (e : NodeEntry) (b₁ : List ℕ) (ct : Pruned g c e b b₁) where
    -- n itself is as it was
    pub parent_same : entries b₁ n ≡ entries b n
    parent_same = ct.rest n (omega (arith, at (hit n), rd.apart n, hit_same n n refl))

    others_kept : Agree (entries b) (entries b₁) (joined (nodes (entries b) (suc g)) L)
    others_kept m z = ct.rest m (omega (arith, at (hit m), rd.apart m))

    pub cut_parted : Parted g n c L b₁
    cut_parted =
        record {
          len = ct.only.len ∙ rd.len;
          parent = rd.id;
          child = (child g n k b f rd lt qf).id;
          least = omega (arith, ct.least, (child g n k b f rd lt qf).least);
          below = ct.sound;
          others = kept_sound (entries b) (entries b₁) (suc g) L others_kept (others_sound (suc g) n k f b lt qf rd.sound);
          apart =
              λ m. omega (
                arith,
                ct.ids (hit m),
                at (hit m),
                rd.apart m,
                ap (tally m) (kept_nodes (entries b) (entries b₁) (suc g) L others_kept),
              );
          room =
              omega (
                arith,
                lengths,
                ct.ids (λ _. 1),
                total_one (nodes_at (entries b₁) g c),
                total_one (free b₁),
                total_one (nodes_at (entries b) g c),
                total_one (free b),
              );
        }

    pub inner_cut : (b₂ : List ℕ) → Renewed g n c L b₁ b₂ → Pruned (suc g) n e b b₂
    inner_cut b₂ rn =
        let E₂ : Store = entries b₂ in
        record {
          sound = rn.sound;
          least = omega (arith, rn.least, length_swap_out (entries b n) k lt);
          leaf =
              λ w. omega (
                arith,
                leaves_at_lem E₂ (suc g) n (E₂ n) refl w,
                rn.leaf w,
                ct.leaf w,
                ap (total w) (kept_leaves (entries b) (entries b₁) (suc g) L others_kept),
                at_leaves w,
              );
          ids =
              λ w. omega (
                arith,
                nodes_at_lem E₂ (suc g) n (E₂ n) refl w,
                rn.ids w,
                ct.ids w,
                ap (total w) (kept_nodes (entries b) (entries b₁) (suc g) L others_kept),
                at w,
              );
          rest =
              λ m z. rn.rest
              m
              (λ (q : m ≡ n). omega (arith, at (hit m), hit_same m n q))
              (omega (
                arith,
                at (hit m),
                ct.ids (hit m),
                ap (tally m) (kept_nodes (entries b) (entries b₁) (suc g) L others_kept),
              ))
              ∙ ct.rest m (omega (arith, at (hit m)));
          only = only_trans ct.only rn.only;
        }
