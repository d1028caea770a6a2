-- Totals over what lies under entries, part by part, so that `omega` adds them up.
-- Assumes nothing.
use mathlib.Core.Path.{◌≡◌, refl, sym, ap, ◌∙◌}
use mathlib.Core.List.{List, [], ◌∷◌, ◌++◌, append_assoc}
use Prim.Native.Nat.{ℕ, suc, ◌+◌}
use native.Mathlib.Omega.{arith}
use Rattle.tree_node.specs.declared.NodeEntry.{NodeEntry}
use Rattle.tree_node.specs.Boxes.{hull}
use Rattle.tree_node.specs.Tally.{total}
use Rattle.tree_node.proofs.Counting.{total_append}
use Rattle.tree_node.proofs.Hulls.{hull_reference}
use Rattle.tree_rules.specs.Tree.{Store, joined, leaves, nodes, leaves_at, nodes_at}

pub joined_append : {A : Type 0} (f : NodeEntry → List A) (a b : List NodeEntry) → joined f (a ++ b) ≡ joined f a ++ joined f b
unfolding joined
joined_append f [] b = refl
joined_append {A} f (e ∷ a) b =
    ap (λ (l : List A). f e ++ l) (joined_append f a b) ∙ sym (append_assoc (f e) (joined f a) (joined f b))

module _ {A : Type 0} (w : A → ℕ) (f : NodeEntry → List A) where
  pub total_both : (a b : List NodeEntry) → total w (joined f (a ++ b)) ≡ total w (joined f a) + total w (joined f b)
  total_both a b = ap (total w) (joined_append f a b) ∙ total_append w (joined f a) (joined f b)

  pub total_cons : (e : NodeEntry) (l : List NodeEntry) → total w (joined f (e ∷ l)) ≡ total w (f e) + total w (joined f l)
  unfolding joined
  total_cons e l = total_append w (f e) (joined f l)

  pub total_joined : (a : List NodeEntry) (e : NodeEntry) (z : List NodeEntry) → total w (joined f (a ++ e ∷ z)) ≡ total w (joined f a) + total w (f e) + total w (joined f z)
  total_joined a e z = omega (arith, total_both a (e ∷ z), total_cons e z)

  pub total_snoc : (a : List NodeEntry) (e : NodeEntry) → total w (joined f (a ++ (e ∷ []))) ≡ total w (joined f a) + total w (f e)
  unfolding joined total
  total_snoc a e = omega (arith, total_joined a e [])

-- what lies under a node, by its entries
module _ (E : Store) (h c : ℕ) (l : List NodeEntry) (p : E c ≡ l) where
  pub leaves_at_lem : (w : NodeEntry → ℕ) → total w (leaves_at E h c) ≡ total w (joined (leaves E h) l)
  unfolding leaves_at
  leaves_at_lem w = rw p

  pub nodes_at_lem : (w : ℕ → ℕ) → total w (nodes_at E h c) ≡ w c + total w (joined (nodes E h) l)
  unfolding nodes_at total
  nodes_at_lem w = rw p

-- what lies under an entry above the leaves lies under its node
module _ (E : Store) (h : ℕ) (e : NodeEntry) where
  pub leaves_under : leaves E (suc h) e ≡ leaves_at E h e.reference
  unfolding leaves leaves_at
  leaves_under = refl

  pub nodes_under : nodes E (suc h) e ≡ nodes_at E h e.reference
  unfolding nodes nodes_at
  nodes_under = refl

-- a node's own entry, before others
module _ (E : Store) (h c : ℕ) (l r : List NodeEntry) where
  pub leaves_hull : (w : NodeEntry → ℕ) → total w (joined (leaves E (suc h)) (hull c l ∷ r)) ≡ total w (leaves_at E h c) + total w (joined (leaves E (suc h)) r)
  leaves_hull w =
      total_cons w (leaves E (suc h)) (hull c l) r
      ∙ ap (λ (x : List NodeEntry). total w x + total w (joined (leaves E (suc h)) r)) (leaves_under E h (hull c l) ∙ ap (leaves_at E h) (hull_reference c l))

  pub nodes_hull : (w : ℕ → ℕ) → total w (joined (nodes E (suc h)) (hull c l ∷ r)) ≡ total w (nodes_at E h c) + total w (joined (nodes E (suc h)) r)
  nodes_hull w =
      total_cons w (nodes E (suc h)) (hull c l) r
      ∙ ap (λ (x : List ℕ). total w x + total w (joined (nodes E (suc h)) r)) (nodes_under E h (hull c l) ∙ ap (nodes_at E h) (hull_reference c l))
