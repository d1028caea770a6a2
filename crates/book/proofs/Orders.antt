-- Lines written in any order make the same book.
-- Assumes nothing.
use mathlib.Core.Path.{◌≡◌, refl, sym, ap, ◌∙◌}
use mathlib.Core.Logic.{◌≢◌, ◌⊎◌, inl, inr}
use mathlib.Core.List.Memᴰ
use mathlib.Core.List.{List, [], ◌∷◌, ◌++◌, append_assoc, append-nil, Memᴰ}
use native.Mathlib.Omega.{arith}
use Rattle.grid.specs.declared.Site.{Site}
use Rattle.book.specs.Book.{write_line}
use Rattle.book.specs.Proper.{Rising}
use Rattle.permutation.specs.Perm.{Perm, same, next, swap, trans}
use Rattle.permutation.proofs.Perms.{perm_member}
use Rattle.book.proofs.Lines.{rising_tail, rising_head, rising_below, write_between, write_comm}

-- the lines of `order` written one after the other, its first one first
abbrev pub write_all : List Site → List Site → List Site
write_all [] s = s
write_all (p ∷ order) s = write_all order (write_line p s)

-- lines behind each other
pub write_all_append : (o r s : List Site) → write_all (o ++ r) s ≡ write_all r (write_all o s)
write_all_append [] r s = refl
write_all_append (p ∷ o) r s = write_all_append o r (write_line p s)

-- no two have one number
abbrev pub Apart : List Site → Type 0
Apart [] = Unit {0}
Apart (p ∷ s) = ((q : Site) → Memᴰ q s → p.number ≢ q.number) × Apart s

-- no two lines of a rising list have one number
pub rising_apart : (s : List Site) → Rising s → Apart s
rising_apart [] r = tt
rising_apart (p ∷ s) r = (λ q m e. omega (arith, e, rising_head p s r q m), rising_apart s (rising_tail p s r))

-- no number twice
pub perm_apart : {s t : List Site} → Perm s t → Apart t → Apart s
perm_apart same a = a
perm_apart (next h) a = (λ q m. a.0 q (perm_member h q m), perm_apart h a.1)
perm_apart (swap {x = p} {y = q} {l = s}) a = (λ x m. go x (Memᴰ.cases_cons m), (λ x m. a.0 x (Memᴰ.tail m), a.1.1))
  where
    go : (x : Site) → (x ≡ q) ⊎ Memᴰ x s → p.number ≢ x.number
    go x (inl e) f = a.0 p (Memᴰ.head refl) (sym (f ∙ ap (λ (y : Site). y.number) e))
    go x (inr k) f = a.1.0 x k f
perm_apart (trans h k) a = perm_apart h (perm_apart k a)

-- ANY ORDER makes the same lines
pub perm_write : {s t : List Site} → Perm s t → Apart t → (a : List Site) → write_all s a ≡ write_all t a
perm_write same h a = refl
perm_write (next {x = p} k) h a = perm_write k h.1 (write_line p a)
perm_write (swap {x = p} {y = q} {l = s}) h a = ap (write_all s) (write_comm q p a (h.0 p (Memᴰ.head refl)))
perm_write (trans k j) h a = perm_write k (perm_apart j h) a ∙ perm_write j h a

-- rising lines, written behind lower ones
write_behind : (s a : List Site) → Rising (a ++ s) → write_all s a ≡ a ++ s
write_behind [] a r = sym (append-nil a)
write_behind (p ∷ s) a r =
    let w : write_line p a ≡ a ++ (p ∷ []) =
    ap (write_line p) (sym (append-nil a)) ∙ write_between p a [] (rising_below a p s r) (λ q m. absurd (Memᴰ.not-nil m)) in
    let e : (a ++ (p ∷ [])) ++ s ≡ a ++ (p ∷ s) = append_assoc a (p ∷ []) s in
    ap (write_all s) w ∙ write_behind s (a ++ (p ∷ [])) (rw e r) ∙ e

-- RISING LINES IN ANY ORDER, written into an empty book, are those lines
pub write_order : {order : List Site} (s : List Site) → Rising s → Perm order s → write_all order [] ≡ s
write_order s r h = perm_write h (rising_apart s r) [] ∙ write_behind s [] r
