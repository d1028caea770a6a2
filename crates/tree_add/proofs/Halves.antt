-- A node and the entry that it hands back, taken apart: its two halves are sound, and have what lay under it.
-- Assumes nothing.
use Rattle.std.specs.Prelude.{Option, None}
use mathlib.Core.Path.{◌≡◌, refl, sym, ap, subst, ◌∙◌}
use mathlib.Core.List.{List, [], ◌∷◌, ◌++◌, append-nil}
use Prim.Native.Nat.{ℕ, suc, ◌+◌, ◌≤◌, ◌<◌}
use native.Mathlib.Omega.{arith}
use lib.ListN.{length, set}
use Rattle.limits.specs.Limits.{min_entries, max_nodes, table_bytes}
use Rattle.words.specs.Words.{Only}
use Rattle.words.proofs.Frame.{only_trans}
use Rattle.tree_node.specs.declared.NodeEntry.{NodeEntry}
use Rattle.tree_node.specs.Layout.{pool_start}
use Rattle.tree_node.specs.Node.{entries, Wrote}
use Rattle.tree_node.specs.Free.{free}
use Rattle.tree_node.specs.Boxes.{hull}
use Rattle.tree_node.specs.Tally.{total, hit, tally, Within}
use Rattle.tree_node.proofs.Counting.{hit_same, taken_total, taken_not}
use Rattle.tree_node.proofs.Reading.{eight}
use Rattle.tree_node.proofs.Storing.{others, in_pool, in_tree}
use Rattle.tree_node.proofs.FreeStack.{free_kept}
use Rattle.permutation.specs.Perm.{Perm}
use Rattle.permutation.specs.Perm.Perm.{trans}
use Rattle.tree_rules.specs.Tree.{Store, joined, leaves, nodes, Each, SoundUnder}
use Rattle.tree_rules.proofs.Every.{each_left, each_right}
use Rattle.tree_rules.proofs.Totals.{total_both, leaves_at_lem, nodes_at_lem, leaves_hull, nodes_hull}
use Rattle.tree_rules.proofs.Kept.{Agree, kept_leaves, kept_nodes, kept_sound, sound_node}
use Rattle.permutation.proofs.Perms.{perm_sym, perm_snoc}
use Rattle.tree_rules.proofs.Perms.{perm_each, perm_total}
use Rattle.tree_split.specs.Parted.{Parted}
use Rattle.tree_add.specs.Steps.{spill, PutBehind, Divisible, Renewed}

-- node c is not free
pub open_not_free : (h c : ℕ) (xs : List NodeEntry) (b : List ℕ) → Divisible h c xs b → tally c (free b) ≡ 0
open_not_free h c xs b op = omega (arith, op.apart c, hit_same c c refl)

-- the nine entries of node c, x among them, are shared with node s
module _ (h c s : ℕ) (x : NodeEntry) (b b₁ : List ℕ) (op : Divisible h c (x ∷ []) b) (sp : Parted c s x b b₁) where
  pub half_taken : (w : ℕ → ℕ) → total w (free b) ≡ w s + total w (free b₁)
  half_taken = taken_total (free b) (free b₁) s sp.taken

  nine : Perm (entries b₁ c ++ entries b₁ s) (entries b c ++ (x ∷ []))
  nine = trans sp.whole (perm_sym (perm_snoc (entries b c) x))

  pub half_within : Within max_nodes (free b₁)
  unfolding Within
  half_within m z = op.within m (omega (arith, half_taken (hit m)))

  pub half_not_c : tally c (free b₁) ≡ 0
  half_not_c = omega (arith, half_taken (hit c), open_not_free h c (x ∷ []) b op)

  pub half_not_s : tally s (free b₁) ≡ 0
  half_not_s = omega (arith, half_taken (hit s), hit_same s s refl, op.apart s)

  -- what lies under the nine is left
  pub half_rest : (m : ℕ) → 0 < tally m (joined (nodes (entries b) h) (entries b c ++ (x ∷ []))) → entries b₁ m ≡ entries b m
  half_rest m z =
      sp.rest m
      (λ (y : m ≡ c). omega (arith, op.apart m, hit_same m c y))
      (λ (y : m ≡ s). omega (arith, op.apart m, half_taken (hit m), hit_same m s y))

  -- later the two nodes have the same entries, and so has what lies under them
  module _ (b' : List ℕ) (same_c : entries b' c ≡ entries b₁ c) (same_s : entries b' s ≡ entries b₁ s)
      (agree : Agree (entries b) (entries b') (joined (nodes (entries b) h) (entries b c ++ (x ∷ [])))) where
    each_half : Each (SoundUnder (entries b') h) (entries b₁ c ++ entries b₁ s)
    each_half =
        perm_each
        (SoundUnder (entries b') h)
        (perm_sym nine)
        (kept_sound (entries b) (entries b') h (entries b c ++ (x ∷ [])) agree op.sound)

    pub half_old : SoundUnder (entries b') (suc h) (hull c (entries b' c))
    half_old =
        sound_node (entries b') h c op.id (rw same_c sp.least.0) (eight b' c)
        (rw same_c (each_left (SoundUnder (entries b') h) (entries b₁ c) (entries b₁ s) each_half))

    pub half_new : SoundUnder (entries b') (suc h) (hull s (entries b' s))
    half_new =
        sound_node (entries b') h s sp.id (rw same_s sp.least.1) (eight b' s)
        (rw same_s (each_right (SoundUnder (entries b') h) (entries b₁ c) (entries b₁ s) each_half))

    both : {A : Type 0} (w : A → ℕ) (f : NodeEntry → List A) → total w (joined f (entries b' c)) + total w (joined f (entries b' s)) ≡ total w (joined f (entries b c ++ (x ∷ [])))
    both w f = rw (same_c, same_s) (omega (arith, total_both w f (entries b₁ c) (entries b₁ s), perm_total w f nine))

    pub half_leaves : (w : NodeEntry → ℕ) → total w (joined (leaves (entries b') (suc h)) (hull c (entries b' c) ∷ hull s (entries b' s) ∷ []))
        ≡ total w (joined (leaves (entries b) h) (entries b c ++ (x ∷ [])))
    unfolding joined total
    half_leaves w =
        let E' : Store = entries b' in
        omega (
          arith,
          leaves_hull E' h c (E' c) (hull s (E' s) ∷ []) w,
          leaves_hull E' h s (E' s) [] w,
          leaves_at_lem E' h c (E' c) refl w,
          leaves_at_lem E' h s (E' s) refl w,
          both w (leaves E' h),
          ap (total w) (kept_leaves (entries b) E' h (entries b c ++ (x ∷ [])) agree),
        )

    pub half_nodes : (w : ℕ → ℕ) → total w (joined (nodes (entries b') (suc h)) (hull c (entries b' c) ∷ hull s (entries b' s) ∷ []))
        ≡ w c + w s + total w (joined (nodes (entries b) h) (entries b c ++ (x ∷ [])))
    unfolding joined total
    half_nodes w =
        let E' : Store = entries b' in
        omega (
          arith,
          nodes_hull E' h c (E' c) (hull s (E' s) ∷ []) w,
          nodes_hull E' h s (E' s) [] w,
          nodes_at_lem E' h c (E' c) refl w,
          nodes_at_lem E' h s (E' s) refl w,
          both w (nodes E' h),
          ap (total w) (kept_nodes (entries b) E' h (entries b c ++ (x ∷ [])) agree),
        )

-- node c and what it hands back lie under node n
module _ (h n c : ℕ) (xs : List NodeEntry) (b : List ℕ) (hn : hit n c + tally n (joined (nodes (entries b) h) (entries b c ++ xs)) ≡ 0) where
  pub under_not : c ≡ n → ⊥
  under_not q = omega (arith, hit_same n c (sym q))

  under_out : (m : ℕ) → 0 < tally m (joined (nodes (entries b) h) (entries b c ++ xs)) → m ≡ n → ⊥
  under_out m z y =
      let hm : hit m c + tally m (joined (nodes (entries b) h) (entries b c ++ xs)) ≡ 0 = rw (← y) at hn in
      omega arith

-- the split of c leaves its parent n
module _ (h n c s : ℕ) (x : NodeEntry) (b b₁ : List ℕ) (hn : hit n c + tally n (joined (nodes (entries b) h) (entries b c ++ (x ∷ []))) ≡ 0) (hf : tally n (free b) ≡ 0) (sp : Parted c s x b b₁) where
  half_n : entries b₁ n ≡ entries b n
  half_n =
      sp.rest n
      (λ (q : n ≡ c). under_not h n c (x ∷ []) b hn (sym q))
      (taken_not (free b) (free b₁) s sp.taken n hf)

  pub half_in : (k : ℕ) → k < length (entries b n) → k < length (entries b₁ n)
  half_in k lt = rw half_n lt

  -- n's entry for c is set anew, and one for s is added or handed back
  pub renewed_split : (r : Option NodeEntry) (k : ℕ) (g : NodeEntry) (b₂ b₃ : List ℕ) → Divisible h c (x ∷ []) b → n < max_nodes → Wrote n (set (entries b₁ n) k (hull c (entries b₁ c))) b₁ b₂
      → g ≡ hull s (entries b₂ s) → PutBehind r n g b₂ b₃ → Renewed r h n k c (x ∷ []) b b₃
  unfolding Each
  renewed_split r k g b₂ b₃ op lt w qg pl =
      let E : Store = entries b in
      let E₁ : Store = entries b₁ in
      let E₃ : Store = entries b₃ in
      let taken : (v : ℕ → ℕ) → total v (free b) ≡ v s + total v (free b₁) = half_taken h c s x b b₁ op sp in
      let c≢n : c ≡ n → ⊥ = under_not h n c (x ∷ []) b hn in
      let s≢n : s ≡ n → ⊥ = λ q. omega (arith, taken (hit n), hit_same n s (sym q)) in
      let same_c : E₃ c ≡ E₁ c = others pl.only c c≢n ∙ others w.only c c≢n in
      let same_s₂ : entries b₂ s ≡ E₁ s = others w.only s s≢n in
      let same_s : E₃ s ≡ E₁ s = others pl.only s s≢n ∙ same_s₂ in
      let agree : Agree E E₃ (joined (nodes E h) (E c ++ (x ∷ []))) = λ m z.
      let m≢n : m ≡ n → ⊥ = under_out h n c (x ∷ []) b hn m z in
      others pl.only m m≢n ∙ others w.only m m≢n ∙ half_rest h c s x b b₁ op sp m z in
      let o : Only pool_start table_bytes b₁ b₃ = only_trans (in_pool lt w.only) (in_pool lt pl.only) in
      let fr : free b₃ ≡ free b₁ = free_kept o in
      record {
        extra = hull s (E₃ s) ∷ [];
        few = omega arith;
        here = pl.here ∙ rw (w.here, qg, same_s₂, same_s, same_c, half_n);
        full = pl.full;
        sound = (half_old h c s x b b₁ op sp b₃ same_c same_s agree, (half_new h c s x b b₁ op sp b₃ same_c same_s agree, tt));
        leaf = half_leaves h c s x b b₁ op sp b₃ same_c same_s agree;
        ids = λ v. omega (arith, half_nodes h c s x b b₁ op sp b₃ same_c same_s agree v, ap (total v) fr, taken v);
        used = omega (arith, ap length fr, ap length sp.taken);
        left = λ m. omega (arith, ap (tally m) fr, taken (hit m));
        rest = λ m u v z. others pl.only m u ∙ others w.only m u ∙ sp.rest m v (λ (q : m ≡ s). omega (arith, taken (hit m), hit_same m s q));
        only = only_trans sp.only (in_tree o);
      }

-- c has room: its entry in n is set anew
pub renewed_same : (h n k c : ℕ) (b b' : List ℕ) → Divisible h c [] b → hit n c + tally n (joined (nodes (entries b) h) (entries b c ++ [])) ≡ 0 → n < max_nodes → min_entries ≤ length (entries b c)
    → Wrote n (set (entries b n) k (hull c (entries b c))) b b' → Renewed None h n k c [] b b'
unfolding spill joined total Each
renewed_same h n k c b b' op hn lt lo w =
    let E : Store = entries b in
    let E' : Store = entries b' in
    let same : E' c ≡ E c = others w.only c (under_not h n c [] b hn) in
    let nil : E c ++ [] ≡ E c = append-nil (E c) in
    let agree : Agree E E' (joined (nodes E h) (E c)) = λ m z.
    others w.only m (under_out h n c [] b hn m (subst (λ (l : List NodeEntry). 0 < tally m (joined (nodes E h) l)) (sym nil) z)) in
    let sd : Each (SoundUnder E h) (E c) = subst (λ (l : List NodeEntry). Each (SoundUnder E h) l) nil op.sound in
    let o : Only pool_start table_bytes b b' = in_pool lt w.only in
    record {
      extra = [];
      few = omega arith;
      here = append-nil (E' n) ∙ w.here ∙ rw same (sym (append-nil _));
      full = omega arith;
      sound = (sound_node E' h c op.id (rw same lo) (eight b' c) (rw same (kept_sound E E' h (E c) agree sd)), tt);
      leaf = λ v.
          omega (
            arith,
            leaves_hull E' h c (E' c) [] v,
            leaves_at_lem E' h c (E c) same v,
            ap (λ (l : List NodeEntry). total v (joined (leaves E h) l)) nil,
            ap (total v) (kept_leaves E E' h (E c) agree),
          );
      ids = λ v.
          omega (
            arith,
            nodes_hull E' h c (E' c) [] v,
            nodes_at_lem E' h c (E c) same v,
            ap (λ (l : List NodeEntry). total v (joined (nodes E h) l)) nil,
            ap (total v) (kept_nodes E E' h (E c) agree),
            ap (total v) (free_kept o),
          );
      used = omega (arith, ap length (free_kept o));
      left = λ m. omega (arith, ap (tally m) (free_kept o));
      rest = λ m u v z. others w.only m u;
      only = in_tree o;
    }
