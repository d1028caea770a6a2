-- A leaf entry's box lies in every box above it: a search may skip what a box shuts out.
-- Assumes nothing.
use mathlib.Core.Path.{subst⁻¹}
use mathlib.Core.List.{List, [], ◌∷◌}
use Prim.Native.Nat.{ℕ, zero, suc}
use Rattle.tree_node.specs.declared.NodeEntry.{NodeEntry}
use Rattle.tree_node.specs.Boxes.{hull, grow, InBox}
use Rattle.tree_node.proofs.Hulls.{in_refl, in_trans, in_grow, in_grown}
use Rattle.tree_rules.specs.Tree.{Store, joined, leaves, Each, SoundUnder}
use Rattle.tree_rules.proofs.Every.{each_append, each_map, each_both}

-- each entry's box lies in the hull
pub each_in_hull : (c : ℕ) (l : List NodeEntry) → Each (λ e. InBox e (hull c l)) l
unfolding Each hull
each_in_hull c [] = tt
each_in_hull c (d ∷ l) = (
  in_grow d (hull c l),
  each_map (λ e. InBox e (hull c l)) (λ e. InBox e (grow d (hull c l))) (λ e i. in_trans i (in_grown d (hull c l))) l (each_in_hull c l),
)

-- what holds of each part holds of the whole
pub each_joined : (Q : NodeEntry → Type 0) (f : NodeEntry → List NodeEntry) (l : List NodeEntry) → Each (λ e. Each Q (f e)) l → Each Q (joined f l)
unfolding Each joined
each_joined Q f [] p = tt
each_joined Q f (e ∷ l) p = each_append Q (f e) (joined f l) p.0 (each_joined Q f l p.1)

pub inside : (E : Store) (h : ℕ) (e : NodeEntry) → SoundUnder E h e → Each (λ p. InBox p e) (leaves E h e)
unfolding SoundUnder leaves Each
inside E zero e s = (in_refl e, tt)
inside E (suc h) e s =
    let l : List NodeEntry = E e.reference in
    let H : NodeEntry = hull e.reference l in
    subst⁻¹
    (λ (x : NodeEntry). Each (λ p. InBox p x) (joined (leaves E h) l))
    s.box
    (each_joined
    (λ p. InBox p H)
    (leaves E h)
    l
    (each_both
    (λ d. InBox d H)
    (SoundUnder E h)
    (λ d. Each (λ p. InBox p H) (leaves E h d))
    (λ d i sd. each_map (λ p. InBox p d) (λ p. InBox p H) (λ p j. in_trans j i) (leaves E h d) (inside E h d sd))
    l
    (each_in_hull e.reference l)
    s.below))
