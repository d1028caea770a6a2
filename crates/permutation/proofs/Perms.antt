-- A list in another order: what it keeps, and how it comes about.
-- Assumes nothing.
use mathlib.Core.Path.{◌≡◌, refl, sym, ap, subst, ◌∙◌}
use mathlib.Core.Logic.{◌⊎◌, inl, inr}
use mathlib.Core.List.Memᴰ
use mathlib.Core.List.{List, [], ◌∷◌, ◌++◌, append-nil, Memᴰ}
use Prim.Native.Nat.{suc}
use lib.ListN.{length}
use Rattle.permutation.specs.Perm.{Perm}
use Rattle.permutation.specs.Perm.Perm.{same, next, swap, trans}

module _ {A : Type 0} where
  pub perm_sym : {l r : List A} → Perm l r → Perm r l
  perm_sym same = same
  perm_sym (next p) = next (perm_sym p)
  perm_sym swap = swap
  perm_sym (trans p q) = trans (perm_sym q) (perm_sym p)

  pub perm_is : {l r : List A} → l ≡ r → Perm l r
  perm_is {l} q = subst (λ (x : List A). Perm l x) q same

  -- as many
  pub perm_length : {l r : List A} → Perm l r → length l ≡ length r
  perm_length same = refl
  perm_length (next p) = ap suc (perm_length p)
  perm_length swap = refl
  perm_length (trans p q) = perm_length p ∙ perm_length q

  -- the same elements
  pub perm_member : {l r : List A} → Perm l r → (z : A) → Memᴰ z l → Memᴰ z r
  perm_member same z m = m
  perm_member (next {x = x} {l = l} {r = r} h) z m = go (Memᴰ.cases_cons m) (perm_member h z)
    where
      go : (z ≡ x) ⊎ Memᴰ z l → (Memᴰ z l → Memᴰ z r) → Memᴰ z (x ∷ r)
      go (inl e) ih = Memᴰ.head e
      go (inr k) ih = Memᴰ.tail (ih k)
  perm_member (swap {x = x} {y = y} {l = l}) z m = go (Memᴰ.cases_cons m)
    where
      tail : (z ≡ y) ⊎ Memᴰ z l → Memᴰ z (y ∷ x ∷ l)
      tail (inl e) = Memᴰ.head e
      tail (inr k) = Memᴰ.tail (Memᴰ.tail k)

      go : (z ≡ x) ⊎ Memᴰ z (y ∷ l) → Memᴰ z (y ∷ x ∷ l)
      go (inl e) = Memᴰ.tail (Memᴰ.head e)
      go (inr k) = tail (Memᴰ.cases_cons k)
  perm_member (trans h k) z m = perm_member k z (perm_member h z m)

  pub perm_left : (z : List A) {l r : List A} → Perm l r → Perm (l ++ z) (r ++ z)
  perm_left z same = same
  perm_left z (next p) = next (perm_left z p)
  perm_left z swap = swap
  perm_left z (trans p q) = trans (perm_left z p) (perm_left z q)

  pub perm_move : (a : List A) (e : A) (z : List A) → Perm (a ++ e ∷ z) (e ∷ a ++ z)
  perm_move [] e z = same
  perm_move (d ∷ a) e z = trans (next (perm_move a e z)) swap

  pub perm_snoc : (a : List A) (e : A) → Perm (a ++ (e ∷ [])) (e ∷ a)
  perm_snoc [] e = same
  perm_snoc (d ∷ a) e = trans (next (perm_snoc a e)) swap

  pub perm_flip : (a z : List A) → Perm (a ++ z) (z ++ a)
  perm_flip [] z = perm_is (sym (append-nil z))
  perm_flip (e ∷ a) z = trans (next (perm_flip a z)) (perm_sym (perm_move z e a))
