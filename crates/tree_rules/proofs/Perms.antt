-- The same entries in another order: what it keeps.
-- Assumes nothing.
use mathlib.Core.Path.{◌≡◌, refl, sym, ap, subst, ◌∙◌}
use mathlib.Core.List.{List, [], ◌∷◌, ◌++◌}
use mathlib.Core.Logic.{⊎_elim}
use Prim.Native.Nat.{ℕ, suc, ◌-◌, ◌<◌}
use native.Mathlib.Omega.{arith}
use native.Mathlib.Nat.{eq-or-lt_of_le}
use lib.ListN.{length, get_or, set, take, drop}
use lib.Seq.{take-suc, take_all, take-set-le, take-set-lt, set_split, split_at, get_or-take, length-take-le}
use Rattle.tree_node.specs.declared.NodeEntry.{NodeEntry}
use Rattle.tree_node.specs.Node.{no_entry, swap_out}
use Rattle.tree_node.specs.Tally.{total}
use Rattle.tree_rules.specs.Tree.{joined, Each}
use Rattle.permutation.specs.Perm.{Perm}
use Rattle.permutation.specs.Perm.Perm.{same, next, swap, trans}
use Rattle.permutation.proofs.Perms.{perm_sym, perm_length, perm_move, perm_snoc}
use Rattle.tree_rules.proofs.Totals.{total_cons}

pub perm_each : (P : NodeEntry → Type 0) {l r : List NodeEntry} → Perm l r → Each P l → Each P r
unfolding Each
perm_each P same e = e
perm_each P (next p) e = (e.0, perm_each P p e.1)
perm_each P swap e = (e.1.0, (e.0, e.1.1))
perm_each P (trans p q) e = perm_each P q (perm_each P p e)

pub perm_total : {A : Type 0} (w : A → ℕ) (f : NodeEntry → List A) {l r : List NodeEntry} → Perm l r → total w (joined f l) ≡ total w (joined f r)
perm_total w f same = refl
perm_total w f (next {x = e} {l = l} {r = r} p) = omega (arith, perm_total w f p, total_cons w f e l, total_cons w f e r)
perm_total w f (swap {x = a} {y = b} {l = l}) =
    omega (arith, total_cons w f a (b ∷ l), total_cons w f b l, total_cons w f b (a ∷ l), total_cons w f a l)
perm_total w f (trans p q) = perm_total w f p ∙ perm_total w f q

-- the entry taken out and what is left are the entries there were
pub swap_out_perm : (l : List NodeEntry) (k : ℕ) → k < length l → Perm l (get_or l k no_entry ∷ swap_out l k)
unfolding swap_out
swap_out_perm l k lt =
    let m : ℕ = length l - 1 in
    let z : NodeEntry = get_or l m no_entry in
    let whole : l ≡ take m l ++ (z ∷ []) = sym (take_all (suc m) l (omega arith)) ∙ take-suc l m no_entry (omega arith) in
    let len : length (take m l) ≡ m = length-take-le m l (omega arith) in
    ⊎_elim
    (λ (q : k ≡ m).
    rw q
    (subst
    (λ (r : List NodeEntry). Perm l (z ∷ r))
    (sym (take-set-le m l m z (omega arith)))
    (subst (λ (r : List NodeEntry). Perm r (z ∷ take m l)) (sym whole) (perm_snoc (take m l) z))))
    (λ (q : k < m).
    let e : NodeEntry = get_or l k no_entry in
    let A : List NodeEntry = take k (take m l) in
    let Z : List NodeEntry = drop (suc k) (take m l) in
    let at : take m l ≡ A ++ e ∷ Z = split_at (take m l) k no_entry (omega arith) ∙ rw (get_or-take m l k no_entry q) in
    let left : take m (set l k z) ≡ A ++ z ∷ Z = take-set-lt m l k z q ∙ set_split (take m l) k z (omega arith) in
    let p₁ : Perm ((A ++ e ∷ Z) ++ (z ∷ [])) (z ∷ (A ++ e ∷ Z)) = perm_snoc (A ++ e ∷ Z) z in
    let p₂ : Perm (z ∷ (A ++ e ∷ Z)) (e ∷ (A ++ z ∷ Z)) =
    trans (next (perm_move A e Z)) (trans swap (next (perm_sym (perm_move A z Z)))) in
    subst
    (λ (r : List NodeEntry). Perm l (e ∷ r))
    (sym left)
    (subst
    (λ (r : List NodeEntry). Perm r (e ∷ (A ++ z ∷ Z)))
    (sym (whole ∙ ap (λ (r : List NodeEntry). r ++ (z ∷ [])) at))
    (trans p₁ p₂)))
    (eq-or-lt_of_le (omega arith))

pub length_swap_out : (l : List NodeEntry) (k : ℕ) → k < length l → suc (length (swap_out l k)) ≡ length l
length_swap_out l k lt = sym (perm_length (swap_out_perm l k lt))
