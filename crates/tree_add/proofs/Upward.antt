-- On the way up: an addition under a child, and what it makes of the parent.
-- Assumes nothing.
use Rattle.std.specs.Prelude.{Option, None, Some}
use mathlib.Core.Path.{◌≡◌, refl, sym, ap, subst, ◌∙◌}
use mathlib.Core.List.{List, [], ◌∷◌, ◌++◌, append-nil}
use Prim.Native.Nat.{ℕ, suc, ◌+◌, ◌-◌, ◌≤◌, ◌<◌}
use native.Mathlib.Omega.{arith}
use lib.ListN.{length, get_or, set, take, drop, length-set, length-append}
use lib.Seq.{set_split}
use Rattle.limits.specs.Limits.{min_entries, max_entries, table_bytes}
use Rattle.words.specs.Words.{Only}
use Rattle.words.proofs.Frame.{only_trans}
use Rattle.tree_node.specs.declared.NodeEntry.{NodeEntry}
use Rattle.tree_node.specs.Layout.{pool_start}
use Rattle.tree_node.specs.Node.{entries, no_entry, Wrote}
use Rattle.tree_node.specs.Free.{free}
use Rattle.tree_node.specs.Boxes.{grow, hull}
use Rattle.tree_node.specs.Tally.{total, hit, tally, Within}
use Rattle.tree_node.proofs.Counting.{hit_same}
use Rattle.tree_node.proofs.Reading.{eight}
use Rattle.tree_node.proofs.Storing.{others, in_pool, in_tree}
use Rattle.tree_node.proofs.FreeStack.{free_kept}
use Rattle.tree_rules.specs.Tree.{Store, joined, leaves, nodes, leaves_at, nodes_at, Each, SoundUnder}
use Rattle.tree_rules.specs.Change.{Ready}
use Rattle.tree_rules.proofs.Every.{each_append, each_left, each_right, each_snoc}
use Rattle.tree_rules.proofs.Totals.{total_both, total_cons, total_joined, total_snoc, leaves_at_lem, nodes_at_lem, leaves_under}
use Rattle.tree_rules.proofs.Kept.{Agree, kept_leaves, kept_nodes, kept_sound}
use Rattle.tree_rules.proofs.Descent.{child_parted, child, child_total, child_ready}
use Rattle.tree_add.specs.Steps.{spill, PutBehind, Divisible, Renewed, InsertedUnder}
use Rattle.tree_add.proofs.Rooms.{renewed}
use Rattle.tree_add.proofs.Halves.{renewed_same}
use Rattle.tree_add.proofs.Grown.{hull_grown}

-- a leaf takes the entry, or hands it back
inserted_at : (r : Option NodeEntry) (n : ℕ) (e : NodeEntry) (b b' : List ℕ) → Ready 0 n b → PutBehind r n e b b' → InsertedUnder r 0 n e b b'
unfolding SoundUnder leaves nodes total
inserted_at r n e b b' rd pl =
    let E : Store = entries b in
    let E' : Store = entries b' in
    let o : Only pool_start table_bytes b b' = in_pool rd.id pl.only in
    let long : length (E' n) + length (spill r) ≡ suc (length (E n)) =
    omega (arith, ap length pl.here, length-append (E' n) (spill r), length-append (E n) (e ∷ [])) in
    record {
      sound = rw pl.here (each_snoc (SoundUnder E 0) (E n) e rd.sound tt);
      least = omega (arith, pl.full, eight b n);
      full = pl.full;
      leaf = λ w.
          omega (
            arith,
            ap (λ (l : List NodeEntry). total w (joined (leaves E' 0) l)) pl.here,
            leaves_at_lem E 0 n (E n) refl w,
            total_snoc w (leaves E 0) (E n) e,
          );
      ids = λ w.
          omega (
            arith,
            ap (λ (l : List NodeEntry). total w (joined (nodes E' 0) l)) pl.here,
            nodes_at_lem E 0 n (E n) refl w,
            total_snoc w (nodes E 0) (E n) e,
            ap (total w) (free_kept o),
          );
      used = omega (arith, ap length (free_kept o));
      left = λ m. omega (arith, ap (tally m) (free_kept o));
      rest = λ m z. others pl.only m (λ (y : m ≡ n). omega (arith, nodes_at_lem E 0 n (E n) refl (hit m), hit_same m n y));
      only = in_tree o;
    }

pub inserted_leaf : (r : Option NodeEntry) (h n : ℕ) (e : NodeEntry) (b b' : List ℕ) → h ≡ 0 → Ready h n b → PutBehind r n e b b' → InsertedUnder r h n e b b'
inserted_leaf r h n e b b' z rd pl =
    let rd₀ : Ready 0 n b = rw z at rd in
    rw z (inserted_at r n e b b' rd₀ pl)

-- after an addition under node n, it and what it hands back may be taken apart
pub after_open : (r : Option NodeEntry) (h n : ℕ) (e : NodeEntry) (b b₁ : List ℕ) → Ready h n b → InsertedUnder r h n e b b₁ → Divisible h n (spill r) b₁
unfolding Within
after_open r h n e b b₁ rd ad =
    record {
      len = ad.only.len ∙ rd.len;
      id = rd.id;
      sound = ad.sound;
      apart = λ m. omega (arith, ad.ids (hit m), rd.apart m);
      within = λ m z. rd.within m (omega (arith, ad.left m));
    }

-- a node that hands an entry back has eight
pub after_full : (x : NodeEntry) (h n : ℕ) (e : NodeEntry) (b b₁ : List ℕ) → InsertedUnder (Some x) h n e b b₁ → length (entries b₁ n) ≡ max_entries
unfolding spill
after_full x h n e b b₁ ad = omega (arith, ad.full, eight b₁ n)

-- entry k of node n, whose entries stand at height g + 1
module _ (g n k : ℕ) (b : List ℕ) (f : NodeEntry) (rd : Ready (suc g) n b) (lt : k < length (entries b n)) (qf : f ≡ get_or (entries b n) k no_entry) where
  at_n : (w : ℕ → ℕ) → total w (nodes_at (entries b) (suc g) n)
      ≡ w n + (total w (joined (nodes (entries b) (suc g)) (take k (entries b n))) + total w (nodes_at (entries b) g f.reference) + total w (joined (nodes (entries b) (suc g)) (drop (suc k) (entries b n))))
  at_n = child_total g n k b f rd lt qf

  -- an addition under it
  module _ (q : Option NodeEntry) (e : NodeEntry) (b₁ : List ℕ) (ad : InsertedUnder q g f.reference e b b₁) where
    n_out : tally n (nodes_at (entries b) g f.reference) + tally n (free b) ≡ 0
    n_out = omega (arith, at_n (hit n), rd.apart n, hit_same n n refl)

    pub above_kept : entries b₁ n ≡ entries b n
    above_kept = ad.rest n n_out

    pub above_out : hit n f.reference + tally n (joined (nodes (entries b₁) g) (entries b₁ f.reference ++ spill q)) ≡ 0
    above_out = omega (arith, ad.ids (hit n), n_out)

    pub above_not_free : tally n (free b₁) ≡ 0
    above_not_free = omega (arith, ad.ids (hit n), n_out)

    -- then the entry is set anew
    module _ (r : Option NodeEntry) (b₂ : List ℕ) (md : Renewed r g n k f.reference (spill q) b₁ b₂) where
      c_in : (m : ℕ) → tally m (nodes_at (entries b) g f.reference) ≡ 0 → m ≡ f.reference → ⊥
      c_in m z y =
          omega (arith, nodes_at_lem (entries b) g f.reference (entries b f.reference) refl (hit m), hit_same m f.reference y)

      both : (m : ℕ) → (m ≡ n → ⊥) → tally m (nodes_at (entries b) g f.reference) ≡ 0 → tally m (free b) ≡ 0 → entries b₂ m ≡ entries b m
      both m u v z = md.rest m u (c_in m v) (omega (arith, ad.left m)) ∙ ad.rest m (omega arith)

      agree_a : Agree (entries b) (entries b₂) (joined (nodes (entries b) (suc g)) (take k (entries b n)))
      agree_a m z =
          both m
          (λ (y : m ≡ n). omega (arith, at_n (hit m), rd.apart m, hit_same m n y))
          (omega (arith, at_n (hit m), rd.apart m))
          (omega (arith, at_n (hit m), rd.apart m))

      agree_z : Agree (entries b) (entries b₂) (joined (nodes (entries b) (suc g)) (drop (suc k) (entries b n)))
      agree_z m z =
          both m
          (λ (y : m ≡ n). omega (arith, at_n (hit m), rd.apart m, hit_same m n y))
          (omega (arith, at_n (hit m), rd.apart m))
          (omega (arith, at_n (hit m), rd.apart m))

      now_n : entries b₂ n ++ spill r ≡ (take k (entries b n) ++ hull f.reference (entries b₂ f.reference) ∷ drop (suc k) (entries b n)) ++ md.extra
      now_n =
          md.here
          ∙ rw above_kept (ap (λ (l : List NodeEntry). l ++ md.extra) (set_split (entries b n) k (hull f.reference (entries b₂ f.reference)) lt))

      -- the total over the new entries, part by part
      parts : {A : Type 0} (w : A → ℕ) (F : NodeEntry → List A) → total w (joined F (entries b₂ n ++ spill r))
          ≡ total w (joined F (take k (entries b n))) + total w (joined F (drop (suc k) (entries b n))) + total w (joined F (hull f.reference (entries b₂ f.reference) ∷ md.extra))
      parts w F =
          let H : NodeEntry = hull f.reference (entries b₂ f.reference) in
          let A : List NodeEntry = take k (entries b n) in
          let Z : List NodeEntry = drop (suc k) (entries b n) in
          omega (
            arith,
            ap (λ (l : List NodeEntry). total w (joined F l)) now_n,
            total_both w F (A ++ H ∷ Z) md.extra,
            total_joined w F A H Z,
            total_cons w F H md.extra,
          )

      inserted_inner : InsertedUnder r (suc g) n e b b₂
      unfolding Each
      inserted_inner =
          let E : Store = entries b in
          let E₂ : Store = entries b₂ in
          let A : List NodeEntry = take k (entries b n) in
          let Z : List NodeEntry = drop (suc k) (entries b n) in
          let H : NodeEntry = hull f.reference (entries b₂ f.reference) in
          let parted : E n ≡ A ++ f ∷ Z = child_parted g n k b f rd lt qf in
          let sd : Each (SoundUnder E (suc g)) (A ++ f ∷ Z) = rw parted at rd.sound in
          let sa : Each (SoundUnder E₂ (suc g)) A = kept_sound E E₂ (suc g) A agree_a (each_left _ A (f ∷ Z) sd) in
          let sz : Each (SoundUnder E₂ (suc g)) Z = kept_sound E E₂ (suc g) Z agree_z (each_right (SoundUnder E (suc g)) A (f ∷ Z) sd).1 in
          let sh = md.sound in
          let len : length (E₂ n) + length (spill r) ≡ length (E n) + length md.extra =
          omega (
            arith,
            ap length md.here,
            length-append (E₂ n) (spill r),
            length-append (set (entries b₁ n) k H) md.extra,
            length-set (entries b₁ n) k H,
            ap length above_kept,
          ) in
          record {
            sound = rw now_n (each_append _ (A ++ H ∷ Z) md.extra (each_append _ A (H ∷ Z) sa (sh.0, sz)) sh.1);
            least = omega (arith, md.full, md.few, eight b n);
            full = md.full;
            leaf = λ w.
                omega (
                  arith,
                  parts w (leaves E₂ (suc g)),
                  ap (total w) (kept_leaves E E₂ (suc g) A agree_a),
                  ap (total w) (kept_leaves E E₂ (suc g) Z agree_z),
                  md.leaf w,
                  ad.leaf w,
                  leaves_at_lem E (suc g) n _ parted w,
                  total_joined w (leaves E (suc g)) A f Z,
                  ap (total w) (leaves_under E g f),
                );
            ids = λ w.
                omega (
                  arith,
                  parts w (nodes E₂ (suc g)),
                  ap (total w) (kept_nodes E E₂ (suc g) A agree_a),
                  ap (total w) (kept_nodes E E₂ (suc g) Z agree_z),
                  md.ids w,
                  ad.ids w,
                  at_n w,
                );
            used = omega (arith, md.used, ad.used);
            left = λ m. omega (arith, md.left m, ad.left m);
            rest = λ m z.
                both m (λ (y : m ≡ n). omega (arith, at_n (hit m), hit_same m n y)) (omega (arith, at_n (hit m))) (omega arith);
            only = only_trans ad.only md.only;
          }

-- the steps of an addition above the leaves
module _ (h n k : ℕ) (f : NodeEntry) (b : List ℕ) (rd : Ready h n b) (nz : h ≡ 0 → ⊥) (lt : k < length (entries b n)) (qf : f ≡ get_or (entries b n) k no_entry) where
  up : suc (h - 1) ≡ h
  up = omega arith

  above : Ready (suc (h - 1)) n b
  above = rw up rd

  pub down_ready : Ready (h - 1) f.reference b
  down_ready = child_ready (h - 1) n k b f above lt qf

  pub down_three : min_entries ≤ length (entries b f.reference)
  down_three = (child (h - 1) n k b f above lt qf).least

  pub down_some : (h - 1 ≡ 0 → ⊥) → 0 < length (entries b f.reference)
  down_some z = omega (arith, down_three)

  module _ (q : Option NodeEntry) (e : NodeEntry) (b₁ : List ℕ) (ad : InsertedUnder q (h - 1) f.reference e b b₁) where
    kept : entries b₁ n ≡ entries b n
    kept = above_kept (h - 1) n k b f above lt qf q e b₁ ad

    pub up_len : length b₁ ≡ table_bytes
    up_len = ad.only.len ∙ rd.len

    pub up_in : k < length (entries b₁ n)
    up_in = rw kept lt

    pub up_free : h ≤ length (free b) → 0 < length (free b₁)
    up_free le = omega (arith, ad.used)

    pub up_not_free : tally n (free b₁) ≡ 0
    up_not_free = above_not_free (h - 1) n k b f above lt qf q e b₁ ad

    -- the child's smallest box is the one that it had, grown by e
    grown_is : (d : NodeEntry) → InsertedUnder None (h - 1) f.reference e b b₁ → d ≡ grow e f → d ≡ hull f.reference (entries b₁ f.reference)
    unfolding spill leaves_at
    grown_is d a qd =
        let c : ℕ = f.reference in
        let nil : entries b₁ c ++ [] ≡ entries b₁ c = append-nil (entries b₁ c) in
        let box : f ≡ hull c (entries b c) = (child (h - 1) n k b f above lt qf).box in
        let sd : Each (SoundUnder (entries b₁) (h - 1)) (entries b₁ c) = subst (λ (l : List NodeEntry). Each (SoundUnder (entries b₁) (h - 1)) l) nil a.sound in
        qd
        ∙ ap (grow e) box
        ∙ hull_grown (entries b) (entries b₁) (h - 1) c e (entries b c) (entries b₁ c) down_ready.sound sd
        (λ w. ap (λ (l : List NodeEntry). total w (joined (leaves (entries b₁) (h - 1)) l)) (sym nil) ∙ a.leaf w)

    pub up_kept : (d : NodeEntry) (b₂ : List ℕ) → q ≡ None → d ≡ grow e f → Wrote n (set (entries b₁ n) k d) b₁ b₂ → InsertedUnder None h n e b b₂
    unfolding spill
    up_kept d b₂ eq qd v =
        let g : ℕ = h - 1 in
        let a : InsertedUnder None g f.reference e b b₁ = rw eq at ad in
        let w : Wrote n (set (entries b₁ n) k (hull f.reference (entries b₁ f.reference))) b₁ b₂ =
        renewed n k f.reference d b₁ b₂ (grown_is d a qd) v in
        let op : Divisible g f.reference [] b₁ = after_open None g f.reference e b b₁ down_ready a in
        let out = above_out g n k b f above lt qf None e b₁ a in
        let three : min_entries ≤ length (entries b₁ f.reference) = omega (arith, a.least, down_three) in
        let md : Renewed None g n k f.reference [] b₁ b₂ = renewed_same g n k f.reference b₁ b₂ op out rd.id three w in
        subst (λ (x : ℕ). InsertedUnder None x n e b b₂) up (inserted_inner g n k b f above lt qf None e b₁ a None b₂ md)

    module _ (x : NodeEntry) (eq : q ≡ Some x) where
      spilt : InsertedUnder (Some x) (h - 1) f.reference e b b₁
      spilt = rw eq at ad

      pub up_open : Divisible (h - 1) f.reference (x ∷ []) b₁
      unfolding spill
      up_open = after_open (Some x) (h - 1) f.reference e b b₁ down_ready spilt

      pub up_full : length (entries b₁ f.reference) ≡ max_entries
      up_full = after_full x (h - 1) f.reference e b b₁ spilt

      pub up_out : hit n f.reference + tally n (joined (nodes (entries b₁) (h - 1)) (entries b₁ f.reference ++ (x ∷ []))) ≡ 0
      unfolding spill
      up_out = above_out (h - 1) n k b f above lt qf (Some x) e b₁ spilt

      pub up_over : (r : Option NodeEntry) (b₂ : List ℕ) → Renewed r (h - 1) n k f.reference (x ∷ []) b₁ b₂ → InsertedUnder r h n e b b₂
      unfolding spill
      up_over r b₂ md =
          subst (λ (z : ℕ). InsertedUnder r z n e b b₂) up (inserted_inner (h - 1) n k b f above lt qf (Some x) e b₁ spilt r b₂ md)
