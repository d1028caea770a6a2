-- The root: a first node, a new root over two, and the header.
-- Assumes nothing.
use mathlib.Core.Path.{◌≡◌, refl, sym, ap, subst, ◌∙◌}
use mathlib.Core.List.{List, [], ◌∷◌, ◌++◌, append-nil}
use Prim.Native.Nat.{ℕ, suc, ◌+◌, ◌≤◌, ◌<◌}
use native.Mathlib.Omega.{arith}
use native.Mathlib.Numerals.{add-one}
use lib.ListN.{length, length-append}
use Rattle.limits.specs.Limits.{max_entries, max_levels, max_nodes, max_sites, table_bytes}
use Rattle.words.specs.Words.{Only}
use Rattle.words.proofs.Frame.{only_trans, only_wider}
use Rattle.tree_node.specs.declared.NodeEntry.{NodeEntry}
use Rattle.std.specs.Prelude.{Option, None, Some}
use Rattle.tree_node.specs.declared.Top.{Top}
use Rattle.tree_node.specs.Layout.{pool_start}
use Rattle.tree_node.specs.Node.{entries, Wrote}
use Rattle.tree_node.specs.Free.{free, Taken}
use Rattle.tree_node.specs.Header.{top, root_in, SmallRoot, Headed}
use Rattle.tree_node.specs.Boxes.{hull}
use Rattle.tree_node.specs.Tally.{total, hit, tally, Within}
use Rattle.tree_node.proofs.Counting.{total_one, taken_total, taken_not, hit_same}
use Rattle.tree_node.proofs.Reading.{eight}
use Rattle.tree_node.proofs.Storing.{others, in_pool, in_tree}
use Rattle.tree_node.proofs.FreeStack.{free_kept}
use Rattle.tree_rules.specs.Tree.{Store, joined, leaves, nodes, Each, SoundUnder}
use Rattle.tree_rules.specs.Rooted.{tree_leaves, tree_nodes, RootSound, Rooted, leaves_in}
use Rattle.tree_rules.proofs.Totals.{leaves_at_lem, nodes_at_lem}
use Rattle.tree_rules.proofs.Kept.{Agree}
use Rattle.tree_rules.proofs.Roots.{root_node, root_ready, root_levels, root_free, rooted_small, rooted_by}
use Rattle.tree_rules.proofs.Outside.{rooted_headed, leaves_headed}
use Rattle.tree_split.specs.Parted.{Parted}
use Rattle.tree_add.specs.Steps.{spill, Divisible, InsertedUnder, Raised, Planted}
use Rattle.tree_add.specs.Added.{Added}
use Rattle.tree_add.proofs.Halves.{half_taken, half_not_c, half_not_s, half_rest, half_old, half_new, half_leaves, half_nodes}
use Rattle.tree_add.proofs.Upward.{after_open, after_full}

-- a new node over the nodes c and s
module _ (r : ℕ) (b b₁ : List ℕ) (tk : Taken r [] b b₁) where
  pub over_room : length (entries b₁ r) < max_entries
  over_room = omega (arith, ap length tk.here)

  module _ (c : ℕ) (b₂ : List ℕ) (w₁ : Wrote r (entries b₁ r ++ (hull c (entries b₁ c) ∷ [])) b₁ b₂) where
    pub over_room_2 : length (entries b₂ r) < max_entries
    over_room_2 = omega (arith, ap length w₁.here, length-append (entries b₁ r) (hull c (entries b₁ c) ∷ []), ap length tk.here)

    pub over_done : (s : ℕ) (b₃ : List ℕ) → tally c (free b) ≡ 0 → tally s (free b) ≡ 0 → Wrote r (entries b₂ r ++ (hull s (entries b₂ s) ∷ [])) b₂ b₃
        → Taken r (hull c (entries b c) ∷ hull s (entries b s) ∷ []) b b₃
    over_done s b₃ hc hs w₂ =
        let c≢r : c ≡ r → ⊥ = taken_not (free b) (free b₁) r tk.taken c hc in
        let s≢r : s ≡ r → ⊥ = taken_not (free b) (free b₁) r tk.taken s hs in
        let c₁ : entries b₁ c ≡ entries b c = tk.rest c c≢r in
        let s₂ : entries b₂ s ≡ entries b s = others w₁.only s s≢r ∙ tk.rest s s≢r in
        let o : Only pool_start table_bytes b₁ b₃ = only_trans (in_pool tk.id w₁.only) (in_pool tk.id w₂.only) in
        record {
          taken = tk.taken ∙ ap (λ (l : List ℕ). r ∷ l) (sym (free_kept o));
          id = tk.id;
          here = w₂.here ∙ rw (w₁.here, tk.here, c₁, s₂);
          rest = λ m x. others w₂.only m x ∙ others w₁.only m x ∙ tk.rest m x;
          only = only_trans tk.only (in_tree o);
        }

-- a root with eight entries, and x
module _ (g n s : ℕ) (x : NodeEntry) (b b₁ : List ℕ) (op : Divisible g n (x ∷ []) b) (sp : Parted n s x b b₁) where
  pub rise_some : 2 ≤ length (free b) → 0 < length (free b₁)
  rise_some le = omega (arith, ap length sp.taken)

  raised : (m : ℕ) (b₂ : List ℕ) → Taken m (hull n (entries b₁ n) ∷ hull s (entries b₁ s) ∷ []) b₁ b₂ → Raised (top (suc g) m) g n (x ∷ []) b b₂
  unfolding tree_leaves tree_nodes RootSound Each
  raised m b₂ tk =
      let E : Store = entries b in
      let E₁ : Store = entries b₁ in
      let E₂ : Store = entries b₂ in
      let taken : (w : ℕ → ℕ) → total w (free b) ≡ w s + total w (free b₁) = half_taken g n s x b b₁ op sp in
      let taken₂ : (w : ℕ → ℕ) → total w (free b₁) ≡ w m + total w (free b₂) = taken_total (free b₁) (free b₂) m tk.taken in
      let same_n : E₂ n ≡ E₁ n = tk.rest n (taken_not (free b₁) (free b₂) m tk.taken n (half_not_c g n s x b b₁ op sp)) in
      let same_s : E₂ s ≡ E₁ s = tk.rest s (taken_not (free b₁) (free b₂) m tk.taken s (half_not_s g n s x b b₁ op sp)) in
      let agree : Agree E E₂ (joined (nodes E g) (E n ++ (x ∷ []))) = λ i z.
      tk.rest i (λ (q : i ≡ m). omega (arith, op.apart i, taken (hit i), taken₂ (hit i), hit_same i m q)) ∙ half_rest g n s x b b₁ op sp i z in
      let here : E₂ m ≡ hull n (E₂ n) ∷ hull s (E₂ s) ∷ [] = tk.here ∙ rw (same_n, same_s) in
      let two : length (E₂ m) ≡ 2 = ap length here in
      record {
        top = record {
          id = tk.id;
          two = λ z. omega arith;
          one = omega arith;
          most = omega arith;
          below = rw here (half_old g n s x b b₁ op sp b₂ same_n same_s agree, (half_new g n s x b b₁ op sp b₂ same_n same_s agree, tt));
        };
        leaf = λ w. leaves_at_lem E₂ (suc g) m _ here w ∙ half_leaves g n s x b b₁ op sp b₂ same_n same_s agree w;
        ids = λ w.
            omega (
              arith,
              nodes_at_lem E₂ (suc g) m _ here w,
              half_nodes g n s x b b₁ op sp b₂ same_n same_s agree w,
              taken w,
              taken₂ w,
            );
        only = only_trans sp.only tk.only;
      }

  pub rise_done : (m : ℕ) (b₂ : List ℕ) → Taken m (hull n (entries b₁ n) ∷ hull s (entries b₁ s) ∷ []) b₁ b₂ → Raised (top (g + 1) m) g n (x ∷ []) b b₂
  rise_done m b₂ tk = subst (λ (z : ℕ). Raised (top z m) g n (x ∷ []) b b₂) (sym (add-one g)) (raised m b₂ tk)

-- an addition under the root n
module _ (g n : ℕ) (b : List ℕ) (rt : Rooted (top g n) b) where
  pub root_some : 0 < length (entries b n)
  root_some = (root_node g n b rt).one

  pub root_enough : length (tree_leaves (entries b) (top g n)) < max_sites → g ≤ length (free b)
  root_enough le = omega (arith, root_free g n b rt le)

  module _ (e : NodeEntry) (b₁ : List ℕ) where
    pub plant_kept : (o : Option NodeEntry) → o ≡ None → InsertedUnder o g n e b b₁ → Planted (top g n) e (top g n) b b₁
    unfolding spill RootSound tree_leaves tree_nodes
    plant_kept o q a =
        let ad : InsertedUnder None g n e b b₁ = rw q at a in
        let E₁ : Store = entries b₁ in
        let nil : E₁ n ++ [] ≡ E₁ n = append-nil (E₁ n) in
        let was = root_node g n b rt in
        record {
          rooted =
              rooted_by (top g n) (top g n) b b₁ rt ad.only.len
              record {
                id = was.id;
                two = λ z. omega (arith, was.two z, ad.least);
                one = omega (arith, was.one, ad.least);
                most = eight b₁ n;
                below = subst (λ (l : List NodeEntry). Each (SoundUnder E₁ g) l) nil ad.sound;
              }
              (λ w. omega (arith, ad.ids w, nodes_at_lem E₁ g n (E₁ n) refl w, ap (λ (l : List NodeEntry). total w (joined (nodes E₁ g) l)) nil));
          leaf = λ w. omega (arith, ad.leaf w, leaves_at_lem E₁ g n (E₁ n) refl w, ap (λ (l : List NodeEntry). total w (joined (leaves E₁ g) l)) nil);
          only = ad.only;
        }

    module _ (o : Option NodeEntry) (x : NodeEntry) (q : o ≡ Some x) (a : InsertedUnder o g n e b b₁) where
      spilt : InsertedUnder (Some x) g n e b b₁
      spilt = rw q at a

      pub plant_open : Divisible g n (x ∷ []) b₁
      unfolding spill
      plant_open = after_open (Some x) g n e b b₁ (root_ready g n b rt) spilt

      pub plant_full : length (entries b₁ n) ≡ max_entries
      plant_full = after_full x g n e b b₁ spilt

      pub plant_free : length (tree_leaves (entries b) (top g n)) < max_sites → 2 ≤ length (free b₁)
      plant_free le = omega (arith, spilt.used, root_free g n b rt le)

      pub plant_low : length (tree_leaves (entries b) (top g n)) < max_sites → g < max_levels
      plant_low le = omega (arith, root_levels g n b rt (omega arith))

      pub plant_rise : (r : Option Top) (b₂ : List ℕ) → Raised r g n (x ∷ []) b₁ b₂ → Planted (top g n) e r b b₂
      unfolding spill tree_leaves tree_nodes
      plant_rise r b₂ ra =
          record {
            rooted = rooted_by (top g n) r b b₂ rt (ra.only.len ∙ spilt.only.len) ra.top (λ w. ra.ids w ∙ spilt.ids w);
            leaf = λ w. ra.leaf w ∙ spilt.leaf w;
            only = only_trans spilt.only ra.only;
          }

-- the first leaf entry
module _ (b : List ℕ) (rt : Rooted None b) where
  pub first_some : 0 < length (free b)
  unfolding tree_nodes
  first_some = omega (arith, rt.all)

  pub first_within : Within max_nodes (free b)
  unfolding Within
  first_within m z = rt.within m (omega arith)

  pub first_done : (n : ℕ) (e : NodeEntry) (b₁ b₂ : List ℕ) → Taken n [] b b₁ → Wrote n (entries b₁ n ++ (e ∷ [])) b₁ b₂ → Planted None e (top 0 n) b b₂
  unfolding RootSound tree_leaves tree_nodes joined total Each SoundUnder leaves nodes
  first_done n e b₁ b₂ tk w =
      let here : entries b₂ n ≡ e ∷ [] = w.here ∙ rw tk.here in
      let o : Only pool_start table_bytes b₁ b₂ = in_pool tk.id w.only in
      let out : (v : ℕ → ℕ) → total v (free b) ≡ v n + total v (free b₂) = λ v.
      taken_total (free b) (free b₁) n tk.taken v ∙ ap (λ (l : List ℕ). v n + total v l) (sym (free_kept o)) in
      record {
        rooted =
            rooted_by None (top 0 n) b b₂ rt (o.len ∙ tk.only.len)
            record {
              id = tk.id;
              two = λ z. absurd (z refl);
              one = omega (arith, ap length here);
              most = eight b₂ n;
              below = rw here (tt, tt);
            }
            (λ v. omega (arith, nodes_at_lem (entries b₂) 0 n (e ∷ []) here v, out v));
        leaf = λ v. omega (arith, leaves_at_lem (entries b₂) 0 n (e ∷ []) here v);
        only = only_trans tk.only (in_tree o);
      }

-- the tree that the header tells
module _ (r : Option Top) (b : List ℕ) (q : r ≡ root_in b) where
  pub told_rooted : Rooted (root_in b) b → Rooted r b
  told_rooted rt = rw q rt

  pub told_few : length (leaves_in b) < max_sites → length (tree_leaves (entries b) r) < max_sites
  unfolding leaves_in
  told_few le = rw q le

  module _ (e : NodeEntry) (r' : Option Top) (b₁ : List ℕ) (pl : Planted r e r' b b₁) where
    pub told_small : length (leaves_in b) < max_sites → SmallRoot r'
    told_small le =
        rooted_small r' b₁ pl.rooted
        (omega (arith, pl.leaf (λ _. 1), total_one (tree_leaves (entries b₁) r'), total_one (tree_leaves (entries b) r), told_few le))

    pub add_done : (b₂ : List ℕ) → Headed r' b₁ b₂ → Added e b b₂
    unfolding leaves_in
    add_done b₂ hd =
        record {
          rooted = rooted_headed r' b₁ b₂ hd pl.rooted;
          leaf = λ w. ap (total w) (leaves_headed r' b₁ b₂ hd) ∙ pl.leaf w ∙ ap (λ (z : Option Top). w e + total w (tree_leaves (entries b) z)) q;
          only = only_trans (only_wider (omega arith) (omega arith) pl.only) (only_wider (omega arith) (omega arith) hd.only);
        }
