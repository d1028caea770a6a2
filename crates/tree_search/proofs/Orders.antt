-- The leaf entries under entries in another order.
-- Assumes nothing.
use mathlib.Core.List.{List, [], ◌∷◌, ◌++◌, append_assoc}
use Rattle.tree_node.specs.declared.NodeEntry.{NodeEntry}
use Rattle.tree_rules.specs.Tree.{joined}
use Rattle.permutation.specs.Perm.{Perm}
use Rattle.permutation.specs.Perm.Perm.{same, next, swap, trans}
use Rattle.permutation.proofs.Perms.{perm_left, perm_flip}

perm_right : (z : List NodeEntry) {l r : List NodeEntry} → Perm l r → Perm (z ++ l) (z ++ r)
perm_right [] p = p
perm_right (e ∷ z) p = next (perm_right z p)

perm_swapped : (a b z : List NodeEntry) → Perm (a ++ (b ++ z)) (b ++ (a ++ z))
perm_swapped a b z = simp append_assoc at (perm_left z (perm_flip a b))

pub perm_joined : (f : NodeEntry → List NodeEntry) {l r : List NodeEntry} → Perm l r → Perm (joined f l) (joined f r)
unfolding joined
perm_joined f same = same
perm_joined f (next {x = e} p) = perm_right (f e) (perm_joined f p)
perm_joined f (swap {x = a} {y = b} {l = l}) = perm_swapped (f a) (f b) (joined f l)
perm_joined f (trans p q) = trans (perm_joined f p) (perm_joined f q)
