-- What a repair of node n makes of the tree under it: the same leaf entries, sound again.
-- Assumes nothing.
use mathlib.Core.Path.{◌≡◌, refl, sym, ap, subst, ◌∙◌}
use mathlib.Core.List.{List, [], ◌∷◌, ◌++◌}
use Prim.Native.Nat.{ℕ, suc, ◌+◌, ◌≤◌, ◌<◌}
use native.Mathlib.Omega.{arith}
use lib.ListN.{length}
use Rattle.limits.specs.Limits.{max_nodes, table_bytes}
use Rattle.words.specs.Words.{Only}
use Rattle.tree_node.specs.declared.NodeEntry.{NodeEntry}
use Rattle.tree_node.specs.Layout.{free_start}
use Rattle.tree_node.specs.Node.{entries}
use Rattle.tree_node.specs.Free.{free}
use Rattle.tree_node.specs.Boxes.{hull}
use Rattle.tree_node.specs.Tally.{total, hit, tally}
use Rattle.tree_node.proofs.Counting.{hit_same}
use Rattle.tree_node.proofs.Reading.{eight}
use Rattle.tree_rules.specs.Tree.{Store, joined, leaves, nodes, leaves_at, nodes_at, Each, SoundUnder}
use Rattle.permutation.specs.Perm.{Perm}
use Rattle.permutation.specs.Perm.Perm.{next, trans}
use Rattle.tree_rules.proofs.Every.{each_append, each_left, each_right}
use Rattle.tree_rules.proofs.Kept.{Agree, kept_leaves, kept_nodes, kept_sound, sound_node}
use Rattle.permutation.proofs.Perms.{perm_sym, perm_length, perm_snoc}
use Rattle.tree_rules.proofs.Perms.{perm_each, perm_total}
use Rattle.tree_rules.proofs.Totals.{total_both, total_cons, leaves_at_lem, nodes_at_lem, leaves_under, nodes_under, leaves_hull, nodes_hull}
use Rattle.tree_repair.specs.Repair.{Sibling, Loose, Lifted, Merged, Shared, Repaired}
use Rattle.tree_repair.specs.Repair.Joined.{merged, shared}
use Rattle.tree_repair.specs.Repair.Repaired.{lifted, joined_to}

-- node n's child c, which may have lost an entry, and n's other entries l, which stand at height h + 1: all sound, and no node stands twice
pub record Parted (h n c : ℕ) (l : List NodeEntry) (b : List ℕ) : Type 0 where
  pub len : length b ≡ table_bytes
  pub parent : n < max_nodes
  pub child : c < max_nodes
  pub least : 2 ≤ length (entries b c)
  pub below : Each (SoundUnder (entries b) h) (entries b c)
  pub others : Each (SoundUnder (entries b) (suc h)) l
  pub apart : (m : ℕ) → hit m n + tally m (nodes_at (entries b) h c) + tally m (joined (nodes (entries b) (suc h)) l) + tally m (free b) ≤ 1
  pub room : length (free b) < max_nodes

-- node n has sound entries again, over the same leaf entries and nodes
pub record Renewed (h n c : ℕ) (l : List NodeEntry) (b b' : List ℕ) : Type 0 where
  pub sound : Each (SoundUnder (entries b') (suc h)) (entries b' n)
  pub least : length l ≤ length (entries b' n)
  pub leaf : (w : NodeEntry → ℕ) → total w (joined (leaves (entries b') (suc h)) (entries b' n)) ≡ total w (leaves_at (entries b) h c) + total w (joined (leaves (entries b) (suc h)) l)
  pub ids : (w : ℕ → ℕ) → total w (joined (nodes (entries b') (suc h)) (entries b' n)) + total w (free b')
      ≡ total w (nodes_at (entries b) h c) + total w (joined (nodes (entries b) (suc h)) l) + total w (free b)
  pub rest : (m : ℕ) → (m ≡ n → ⊥) → tally m (nodes_at (entries b) h c) + tally m (joined (nodes (entries b) (suc h)) l) ≡ 0 → entries b' m ≡ entries b m
  pub only : Only free_start table_bytes b b'

module _ (h n c : ℕ) (l : List NodeEntry) (b : List ℕ) (pt : Parted h n c l b) where
  abbrev E : Store
  E = entries b

  at_c : (w : ℕ → ℕ) → total w (nodes_at E h c) ≡ w c + total w (joined (nodes E h) (E c))
  at_c = nodes_at_lem E h c (E c) refl

  -- the siblings of c are other nodes, with entries enough
  siblings : (r : List NodeEntry) → Each (SoundUnder E (suc h)) r → ((m : ℕ) → hit m n + hit m c + tally m (joined (nodes E (suc h)) r) ≤ 1) → Each (λ g. Sibling n c b g.reference) r
  unfolding Each SoundUnder
  siblings [] s p = tt
  siblings (g ∷ r) s p = (
    record { id = s.0.id; under = λ q. twice n q (hit_same n n refl); other = λ q. twice' c q (hit_same c c refl); least = s.0.least },
    siblings r s.1 (λ m. omega (arith, p m, total_cons (hit m) (nodes E (suc h)) g r)),
  )
    where
      at : (m : ℕ) → hit m n + hit m c + hit m g.reference ≤ 1
      at m =
          omega (
            arith,
            p m,
            total_cons (hit m) (nodes E (suc h)) g r,
            ap (total (hit m)) (nodes_under E h g),
            nodes_at_lem E h g.reference (E g.reference) refl (hit m),
          )

      twice : (m : ℕ) → m ≡ g.reference → hit m n ≡ 1 → ⊥
      twice m q z = omega (arith, at m, hit_same m g.reference q)

      twice' : (m : ℕ) → m ≡ g.reference → hit m c ≡ 1 → ⊥
      twice' m q z = omega (arith, at m, hit_same m g.reference q)

  n≢c : n ≡ c → ⊥
  n≢c q = omega (arith, pt.apart n, at_c (hit n), hit_same n n refl, hit_same n c q)

  pub parted_loose : Loose n c l b
  parted_loose =
      record {
        len = pt.len;
        parent = pt.parent;
        child = pt.child;
        under = n≢c;
        least = pt.least;
        siblings = siblings l pt.others (λ m. omega (arith, pt.apart m, at_c (hit m)));
        room = pt.room;
      }

  -- c has entries enough
  module _ (b' : List ℕ) (x : Lifted n c l b b') where
    abbrev E' : Store
    E' = entries b'

    lifted_c : E' c ≡ E c
    lifted_c = x.rest c (λ q. n≢c (sym q))

    lifted_below : Agree E E' (joined (nodes E h) (E c))
    lifted_below m z = x.rest m (λ (q : m ≡ n). omega (arith, pt.apart m, at_c (hit m), hit_same m n q))

    lifted_others : Agree E E' (joined (nodes E (suc h)) l)
    lifted_others m z = x.rest m (λ (q : m ≡ n). omega (arith, pt.apart m, hit_same m n q))

    lifted_here : Perm (E' n) (hull c (E c) ∷ l)
    lifted_here = rw x.here (perm_snoc l (hull c (E c)))

    lifted_sound : SoundUnder E' (suc h) (hull c (E c))
    lifted_sound =
        subst
        (λ (z : List NodeEntry). SoundUnder E' (suc h) (hull c z))
        lifted_c
        (sound_node
        E'
        h
        c
        pt.child
        (rw lifted_c x.least)
        (rw lifted_c (eight b c))
        (rw lifted_c (kept_sound E E' h (E c) lifted_below pt.below)))

    pub lifted_renewed : Renewed h n c l b b'
    unfolding Each
    lifted_renewed =
        record {
          sound = perm_each (SoundUnder E' (suc h)) (perm_sym lifted_here) (lifted_sound, kept_sound E E' (suc h) l lifted_others pt.others);
          least = omega (arith, perm_length lifted_here);
          leaf =
              λ w. omega (
                arith,
                perm_total w (leaves E' (suc h)) lifted_here,
                leaves_hull E' h c (E c) l w,
                leaves_at_lem E' h c (E c) lifted_c w,
                leaves_at_lem E h c (E c) refl w,
                ap (total w) (kept_leaves E E' h (E c) lifted_below),
                ap (total w) (kept_leaves E E' (suc h) l lifted_others),
              );
          ids =
              λ w. omega (
                arith,
                perm_total w (nodes E' (suc h)) lifted_here,
                nodes_hull E' h c (E c) l w,
                nodes_at_lem E' h c (E c) lifted_c w,
                at_c w,
                ap (total w) (kept_nodes E E' h (E c) lifted_below),
                ap (total w) (kept_nodes E E' (suc h) l lifted_others),
                ap (total w) x.same,
              );
          rest = λ m y z. x.rest m y;
          only = x.only;
        }

  -- c is joined with g's child
  module _ (g : NodeEntry) (stay : List NodeEntry) (p : Perm l (g ∷ stay)) where
    abbrev d : ℕ
    d = g.reference

    at_d : (w : ℕ → ℕ) → total w (nodes E (suc h) g) ≡ w d + total w (joined (nodes E h) (E d))
    at_d w = ap (total w) (nodes_under E h g) ∙ nodes_at_lem E h d (E d) refl w

    -- what stood under n
    was_leaves : (w : NodeEntry → ℕ) → total w (leaves_at E h c) + total w (joined (leaves E (suc h)) l)
        ≡ total w (joined (leaves E h) (E c)) + total w (joined (leaves E h) (E d)) + total w (joined (leaves E (suc h)) stay)
    was_leaves w =
        omega (
          arith,
          leaves_at_lem E h c (E c) refl w,
          perm_total w (leaves E (suc h)) p,
          total_cons w (leaves E (suc h)) g stay,
          ap (total w) (leaves_under E h g),
          leaves_at_lem E h d (E d) refl w,
        )

    was_nodes : (w : ℕ → ℕ) → total w (nodes_at E h c) + total w (joined (nodes E (suc h)) l)
        ≡ (w c + total w (joined (nodes E h) (E c))) + (w d + total w (joined (nodes E h) (E d))) + total w (joined (nodes E (suc h)) stay)
    was_nodes w = omega (arith, at_c w, perm_total w (nodes E (suc h)) p, total_cons w (nodes E (suc h)) g stay, at_d w)

    g_sound : Each (SoundUnder E (suc h)) (g ∷ stay)
    g_sound = perm_each (SoundUnder E (suc h)) p pt.others

    stay_sound : Each (SoundUnder E (suc h)) stay
    unfolding Each
    stay_sound = g_sound.1

    d_id : d < max_nodes
    unfolding Each SoundUnder
    d_id = g_sound.0.id

    d_below : Each (SoundUnder E h) (E d)
    unfolding Each SoundUnder
    d_below = g_sound.0.below

    -- all nodes but n, c and d are as they were
    module _ (b' : List ℕ) (rest : (m : ℕ) → (m ≡ n → ⊥) → (m ≡ c → ⊥) → (m ≡ d → ⊥) → entries b' m ≡ entries b m) where
      abbrev E'' : Store
      E'' = entries b'

      kept : (m : ℕ) → 0 < tally m (joined (nodes E h) (E c)) + tally m (joined (nodes E h) (E d)) + tally m (joined (nodes E (suc h)) stay) → E'' m ≡ E m
      kept m z =
          rest
          m
          (λ (q : m ≡ n). omega (arith, pt.apart m, was_nodes (hit m), hit_same m n q))
          (λ (q : m ≡ c). omega (arith, pt.apart m, was_nodes (hit m), hit_same m c q))
          (λ (q : m ≡ d). omega (arith, pt.apart m, was_nodes (hit m), hit_same m d q))

      c_kept : Agree E E'' (joined (nodes E h) (E c))
      c_kept m z = kept m (omega arith)

      d_kept : Agree E E'' (joined (nodes E h) (E d))
      d_kept m z = kept m (omega arith)

      stay_kept : Agree E E'' (joined (nodes E (suc h)) stay)
      stay_kept m z = kept m (omega arith)

      joined_rest : (m : ℕ) → (m ≡ n → ⊥) → tally m (nodes_at E h c) + tally m (joined (nodes E (suc h)) l) ≡ 0 → E'' m ≡ E m
      joined_rest m x z =
          rest
          m
          x
          (λ (q : m ≡ c). omega (arith, was_nodes (hit m), hit_same m c q))
          (λ (q : m ≡ d). omega (arith, was_nodes (hit m), hit_same m d q))

      -- the entries of c and d are those of C and D now
      module _ (C D : List NodeEntry) (q : Perm (E c ++ E d) (C ++ D)) where
        both : {A : Type 0} (w : A → ℕ) (F : NodeEntry → List A) → total w (joined F C) + total w (joined F D) ≡ total w (joined F (E c)) + total w (joined F (E d))
        both w F = omega (arith, perm_total w F q, total_both w F (E c) (E d), total_both w F C D)

        both_leaves : (w : NodeEntry → ℕ) → total w (joined (leaves E'' h) C) + total w (joined (leaves E'' h) D) ≡ total w (joined (leaves E h) (E c)) + total w (joined (leaves E h) (E d))
        both_leaves w =
            omega (
              arith,
              both w (leaves E'' h),
              ap (total w) (kept_leaves E E'' h (E c) c_kept),
              ap (total w) (kept_leaves E E'' h (E d) d_kept),
            )

        both_nodes : (w : ℕ → ℕ) → total w (joined (nodes E'' h) C) + total w (joined (nodes E'' h) D) ≡ total w (joined (nodes E h) (E c)) + total w (joined (nodes E h) (E d))
        both_nodes w =
            omega (
              arith,
              both w (nodes E'' h),
              ap (total w) (kept_nodes E E'' h (E c) c_kept),
              ap (total w) (kept_nodes E E'' h (E d) d_kept),
            )

        both_sound : Each (SoundUnder E'' h) (C ++ D)
        both_sound =
            perm_each
            (SoundUnder E'' h)
            q
            (each_append (SoundUnder E'' h) (E c) (E d) (kept_sound E E'' h (E c) c_kept pt.below) (kept_sound E E'' h (E d) d_kept d_below))

    pub merged_renewed : (b' : List ℕ) → Merged n c d stay b b' → Renewed h n c l b b'
    unfolding Each joined total
    merged_renewed b' x =
        let F : Store = entries b' in
        let D : List NodeEntry = F d in
        let here : Perm (F n) (hull d D ∷ stay) = rw x.here (perm_snoc stay (hull d D)) in
        let sd : SoundUnder F (suc h) (hull d D) = sound_node F h d d_id x.least (eight b' d) (both_sound b' x.rest [] D x.perm) in
        record {
          sound = perm_each (SoundUnder F (suc h)) (perm_sym here) (sd, kept_sound E F (suc h) stay (stay_kept b' x.rest) stay_sound);
          least = omega (arith, perm_length here, perm_length p);
          leaf =
              λ w. omega (
                arith,
                perm_total w (leaves F (suc h)) here,
                leaves_hull F h d D stay w,
                leaves_at_lem F h d D refl w,
                both_leaves b' x.rest [] D x.perm w,
                ap (total w) (kept_leaves E F (suc h) stay (stay_kept b' x.rest)),
                was_leaves w,
              );
          ids =
              λ w. omega (
                arith,
                perm_total w (nodes F (suc h)) here,
                nodes_hull F h d D stay w,
                nodes_at_lem F h d D refl w,
                both_nodes b' x.rest [] D x.perm w,
                ap (total w) (kept_nodes E F (suc h) stay (stay_kept b' x.rest)),
                was_nodes w,
                ap (total w) x.more,
              );
          rest = joined_rest b' x.rest;
          only = x.only;
        }

    pub shared_renewed : (b' : List ℕ) → Shared n c d stay b b' → Renewed h n c l b b'
    unfolding Each
    shared_renewed b' x =
        let F : Store = entries b' in
        let C : List NodeEntry = F c in
        let D : List NodeEntry = F d in
        let here : Perm (F n) (hull d D ∷ hull c C ∷ stay) =
        rw x.here (trans (perm_snoc (stay ++ (hull c C ∷ [])) (hull d D)) (next (perm_snoc stay (hull c C)))) in
        let all : Each (SoundUnder F h) (C ++ D) = both_sound b' x.rest C D x.perm in
        let sc : SoundUnder F (suc h) (hull c C) = sound_node F h c pt.child x.least (eight b' c) (each_left (SoundUnder F h) C D all) in
        let sd : SoundUnder F (suc h) (hull d D) = sound_node F h d d_id x.least₂ (eight b' d) (each_right (SoundUnder F h) C D all) in
        record {
          sound = perm_each (SoundUnder F (suc h)) (perm_sym here) (sd, (sc, kept_sound E F (suc h) stay (stay_kept b' x.rest) stay_sound));
          least = omega (arith, perm_length here, perm_length p);
          leaf =
              λ w. omega (
                arith,
                perm_total w (leaves F (suc h)) here,
                leaves_hull F h d D (hull c C ∷ stay) w,
                leaves_hull F h c C stay w,
                leaves_at_lem F h d D refl w,
                leaves_at_lem F h c C refl w,
                both_leaves b' x.rest C D x.perm w,
                ap (total w) (kept_leaves E F (suc h) stay (stay_kept b' x.rest)),
                was_leaves w,
              );
          ids =
              λ w. omega (
                arith,
                perm_total w (nodes F (suc h)) here,
                nodes_hull F h d D (hull c C ∷ stay) w,
                nodes_hull F h c C stay w,
                nodes_at_lem F h d D refl w,
                nodes_at_lem F h c C refl w,
                both_nodes b' x.rest C D x.perm w,
                ap (total w) (kept_nodes E F (suc h) stay (stay_kept b' x.rest)),
                was_nodes w,
                ap (total w) x.same,
              );
          rest = joined_rest b' x.rest;
          only = x.only;
        }

pub renewed : (h n c : ℕ) (l : List NodeEntry) (b b' : List ℕ) → Parted h n c l b → Repaired n c l b b' → Renewed h n c l b b'
renewed h n c l b b' pt (lifted x) = lifted_renewed h n c l b pt b' x
renewed h n c l b b' pt (joined_to g stay p (merged x)) = merged_renewed h n c l b pt g stay p b' x
renewed h n c l b b' pt (joined_to g stay p (shared x)) = shared_renewed h n c l b pt g stay p b' x
