-- What a change of some nodes leaves: whatever none of them is part of has the same leaves and nodes, and is as sound.
-- Assumes nothing.
use mathlib.Core.Path.{◌≡◌, refl, ap, ap₂, subst⁻¹}
use mathlib.Core.List.{List, [], ◌∷◌, ◌++◌}
use Prim.Native.Nat.{ℕ, zero, suc, ◌≤◌, ◌<◌}
use native.Mathlib.Omega.{arith}
use lib.ListN.{length}
use Rattle.limits.specs.Limits.{max_entries, min_entries, max_nodes}
use Rattle.tree_node.specs.declared.NodeEntry.{NodeEntry}
use Rattle.tree_node.specs.Boxes.{hull}
use Rattle.tree_node.specs.Tally.{total, hit, tally}
use Rattle.tree_node.proofs.Counting.{hit_same, total_append}
use Rattle.tree_node.proofs.Hulls.{hull_reference}
use Rattle.tree_rules.specs.Tree.{Store, joined, leaves, nodes, Each, SoundUnder}

-- E' gives the nodes of l what E gives them
abbrev pub Agree : Store → Store → List ℕ → Type 0
Agree E E' l = (m : ℕ) → 0 < tally m l → E' m ≡ E m

module _ (E E' : Store) where
  agree_left : (a b : List ℕ) → Agree E E' (a ++ b) → Agree E E' a
  agree_left a b p m h = p m (omega (arith, total_append (hit m) a b))

  agree_right : (a b : List ℕ) → Agree E E' (a ++ b) → Agree E E' b
  agree_right a b p m h = p m (omega (arith, total_append (hit m) a b))

  agree_head : (c : ℕ) (l : List ℕ) → Agree E E' (c ∷ l) → E' c ≡ E c
  unfolding total
  agree_head c l p = p c (omega (arith, hit_same c c refl))

  agree_tail : (c : ℕ) (l : List ℕ) → Agree E E' (c ∷ l) → Agree E E' l
  unfolding total
  agree_tail c l p m h = p m (omega arith)

  joined_frame : {A : Type 0} (f f' : NodeEntry → List A) (g : NodeEntry → List ℕ) (l : List NodeEntry) → ((e : NodeEntry) → Agree E E' (g e) → f' e ≡ f e) → Agree E E' (joined g l) → joined f' l ≡ joined f l
  unfolding joined
  joined_frame f f' g [] h p = refl
  joined_frame {A} f f' g (e ∷ l) h p =
      ap₂ (λ (a b : List A). a ++ b) (h e (agree_left _ _ p)) (joined_frame f f' g l h (agree_right (g e) _ p))

  each_frame : (P Q : NodeEntry → Type 0) (g : NodeEntry → List ℕ) (l : List NodeEntry) → ((e : NodeEntry) → Agree E E' (g e) → P e → Q e) → Agree E E' (joined g l) → Each P l → Each Q l
  unfolding joined Each
  each_frame P Q g [] h p s = tt
  each_frame P Q g (e ∷ l) h p s =
      (h e (agree_left _ _ p) s.0, each_frame P Q g l h (agree_right (g e) _ p) s.1)

  pub leaves_frame : (h : ℕ) (e : NodeEntry) → Agree E E' (nodes E h e) → leaves E' h e ≡ leaves E h e
  unfolding leaves nodes
  leaves_frame zero e p = refl
  leaves_frame (suc h) e p =
      rw (agree_head e.reference _ p)
      (joined_frame (leaves E h) (leaves E' h) (nodes E h) (E e.reference) (leaves_frame h) (agree_tail e.reference _ p))

  pub nodes_frame : (h : ℕ) (e : NodeEntry) → Agree E E' (nodes E h e) → nodes E' h e ≡ nodes E h e
  unfolding nodes
  nodes_frame zero e p = refl
  nodes_frame (suc h) e p =
      rw (agree_head e.reference _ p)
      (ap
      (λ (l : List ℕ). e.reference ∷ l)
      (joined_frame (nodes E h) (nodes E' h) (nodes E h) (E e.reference) (nodes_frame h) (agree_tail e.reference _ p)))

  pub sound_frame : (h : ℕ) (e : NodeEntry) → Agree E E' (nodes E h e) → SoundUnder E h e → SoundUnder E' h e
  unfolding nodes SoundUnder
  sound_frame zero e p s = tt
  sound_frame (suc h) e p s =
      let q : E' e.reference ≡ E e.reference = agree_head e.reference _ p in
      record {
        id = s.id;
        box = rw q s.box;
        least = rw q s.least;
        most = rw q s.most;
        below =
            rw q
            (each_frame (SoundUnder E h) (SoundUnder E' h) (nodes E h) (E e.reference) (sound_frame h) (agree_tail e.reference _ p) s.below);
      }

-- the same over a list of entries
module _ (E E' : Store) (h : ℕ) (l : List NodeEntry) (p : Agree E E' (joined (nodes E h) l)) where
  pub kept_leaves : joined (leaves E' h) l ≡ joined (leaves E h) l
  kept_leaves = joined_frame E E' (leaves E h) (leaves E' h) (nodes E h) l (leaves_frame E E' h) p

  pub kept_nodes : joined (nodes E' h) l ≡ joined (nodes E h) l
  kept_nodes = joined_frame E E' (nodes E h) (nodes E' h) (nodes E h) l (nodes_frame E E' h) p

  pub kept_sound : Each (SoundUnder E h) l → Each (SoundUnder E' h) l
  kept_sound s = each_frame E E' (SoundUnder E h) (SoundUnder E' h) (nodes E h) l (sound_frame E E' h) p s

-- a node of 3 to 8 sound entries is sound under its own entry
pub sound_node : (E : Store) (h c : ℕ) → c < max_nodes → min_entries ≤ length (E c) → length (E c) ≤ max_entries → Each (SoundUnder E h) (E c) → SoundUnder E (suc h) (hull c (E c))
unfolding SoundUnder
sound_node E h c id least most below =
    let q = hull_reference c (E c) in
    record {
      id = subst⁻¹ (λ (k : ℕ). k < max_nodes) q id;
      box = subst⁻¹ (λ (k : ℕ). hull c (E c) ≡ hull k (E k)) q refl;
      least = subst⁻¹ (λ (k : ℕ). min_entries ≤ length (E k)) q least;
      most = subst⁻¹ (λ (k : ℕ). length (E k) ≤ max_entries) q most;
      below = subst⁻¹ (λ (k : ℕ). Each (SoundUnder E h) (E k)) q below;
    }
