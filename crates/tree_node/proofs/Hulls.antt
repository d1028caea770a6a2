-- The smallest box of a node: how it is read entry by entry, and that it holds every entry's.
-- Assumes nothing.
use mathlib.Core.Path.{◌≡◌, refl, ap, ◌∙◌}
use mathlib.Core.List.{List, [], ◌∷◌}
use Prim.Native.Nat.{ℕ, suc, ◌-◌, ◌≤◌, ◌<◌}
use native.Mathlib.Omega.{arith}
use lib.ListN.{length, get_or, drop, drop_of_length-le}
use lib.Seq.{drop-cons}
use Rattle.tree_node.specs.declared.NodeEntry.{NodeEntry}
use Rattle.tree_node.specs.Node.{no_entry}
use Rattle.tree_node.specs.Boxes.{grow, hull, InBox}

-- the entries are passed from the last to the first
pub hull_end : (n : ℕ) (l : List NodeEntry) (k : ℕ) (f : NodeEntry) → k ≡ length l → f ≡ hull n [] → f ≡ hull n (drop k l)
hull_end n l k f q e = let le : length l ≤ k = omega arith in rw (drop_of_length-le l le) e

pub hull_step : (n : ℕ) (l : List NodeEntry) (k : ℕ) (e f r : NodeEntry) → 0 < k → k ≤ length l → e ≡ get_or l (k - 1) no_entry → f ≡ hull n (drop k l) → r ≡ grow e f → r ≡ hull n (drop (k - 1) l)
unfolding hull
hull_step n l k e f r some le p q s =
    let up : suc (k - 1) ≡ k = omega arith in
    let d : drop (k - 1) l ≡ get_or l (k - 1) no_entry ∷ drop k l =
    drop-cons l (k - 1) no_entry (omega arith) ∙ ap (λ (j : ℕ). get_or l (k - 1) no_entry ∷ drop j l) up in
    rw d (s ∙ rw (p, q))

-- the hull of node c refers to c
pub hull_reference : (c : ℕ) (l : List NodeEntry) → (hull c l).reference ≡ c
unfolding hull grow
hull_reference c [] = refl
hull_reference c (e ∷ l) = hull_reference c l

pub in_refl : (a : NodeEntry) → InBox a a
in_refl a = omega arith

pub in_trans : {a b c : NodeEntry} → InBox a b → InBox b c → InBox a c
in_trans p q = omega arith

pub in_grow : (d f : NodeEntry) → InBox d (grow d f)
unfolding grow
in_grow d f = omega arith

pub in_grown : (d f : NodeEntry) → InBox f (grow d f)
unfolding grow
in_grown d f = omega arith
