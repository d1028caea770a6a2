-- Where a leaf entry may stand: only under boxes that hold its own.
-- Assumes nothing.
use mathlib.Core.Path.{◌≡◌, refl, subst}
use mathlib.Core.List.{List, ◌∷◌, Memᴰ}
use Prim.Native.Nat.{ℕ}
use Rattle.tree_node.specs.declared.NodeEntry.{NodeEntry}
use Rattle.tree_node.specs.Boxes.{InBox}
use Rattle.tree_rules.specs.Tree.{Store, joined, leaves, Each, SoundUnder}
use Rattle.tree_rules.proofs.Every.{each_append, each_map}
use Rattle.tree_rules.proofs.Inside.{inside}
use Rattle.tree_rules.proofs.Members.{each_member}

-- an entry that stands in a list is not absent from it
pub never_absent : (l : List NodeEntry) (e : NodeEntry) → Memᴰ e l → Each (λ p. p ≡ e → ⊥) l → ⊥
never_absent l e m p = each_member (λ x. x ≡ e → ⊥) l e p m refl

-- what holds of each leaf under e, and under each of l, holds of each under both
pub each_cons : (P : NodeEntry → Type 0) (F : NodeEntry → List NodeEntry) (e : NodeEntry) (l : List NodeEntry) → Each P (F e) → Each P (joined F l) → Each P (joined F (e ∷ l))
unfolding joined
each_cons P F e l p q = each_append P (F e) (joined F l) p q

-- e is not under f, where f's box does not hold e's
pub skipped : (E : Store) (h : ℕ) (f e : NodeEntry) → SoundUnder E h f → (InBox e f → ⊥) → Each (λ p. p ≡ e → ⊥) (leaves E h f)
skipped E h f e s out =
    each_map (λ p. InBox p f) (λ p. p ≡ e → ⊥) (λ p i q. out (subst (λ (x : NodeEntry). InBox x f) q i)) (leaves E h f) (inside E h f s)
