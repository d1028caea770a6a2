-- The book's lines: what is held, and lines written, struck and moved.
-- Assumes nothing.
use mathlib.Core.Path.{◌≡◌, refl, sym, ap, ◌∙◌}
use mathlib.Core.Logic.{◌≢◌, ◌⊎◌, inl, inr}
use mathlib.Core.Bool.{Bool, true, false, cond, ◌||◌, true≢false}
use mathlib.Core.List.Memᴰ
use mathlib.Core.List.{List, [], ◌∷◌, ◌++◌, Memᴰ}
use Prim.Native.Nat.{ℕ, suc, ◌≤◌, ◌<◌}
use native.Mathlib.Omega.{arith}
use native.Mathlib.Decide.{ℕ_discrete, dec_lt}
use lib.ListN.{length}
use lib.Dec.{eqb, ltb}
use borrow.Author.Tests.{eq-eqb, ne_eqb, lt-ltb, le-ltb}
use Rattle.grid.specs.declared.Position.{Position}
use Rattle.grid.specs.declared.Site.{Site}
use Rattle.split.specs.SplitList.{SameSites}
use Rattle.book.specs.Book.{write_line, strike_line, move_line, holds}
use Rattle.book.specs.Proper.{Rising}

-- the site with this number and this position
abbrev pub site_as : ℕ → Position → Site
site_as n p = record { number = n; position = p }

-- every site of a has a lower number
abbrev pub AllBelow : List Site → ℕ → Type 0
AllBelow a n = (q : Site) → Memᴰ q a → q.number < n

-- every site of b has a higher number
abbrev pub AllAbove : ℕ → List Site → Type 0
AllAbove n b = (q : Site) → Memᴰ q b → n < q.number

-- a line with this number
pub record HeldLine (n : ℕ) (s : List Site) : Type 0 where
  pub line : Site
  pub held : Memᴰ line s
  pub named : line.number ≡ n

-- ---- each function at its first line, by what a test finds there

-- a line is written before a higher one
pub write_before : (p q : Site) (s : List Site) → p.number < q.number → write_line p (q ∷ s) ≡ p ∷ q ∷ s
unfolding write_line
write_before p q s h = rw (lt-ltb p.number q.number h) refl

-- and behind a lower one
pub write_past : (p q : Site) (s : List Site) → q.number ≤ p.number → write_line p (q ∷ s) ≡ q ∷ write_line p s
unfolding write_line
write_past p q s h = rw (le-ltb p.number q.number h) refl

-- the line is struck
pub strike_here : (n : ℕ) (q : Site) (s : List Site) → q.number ≡ n → strike_line n (q ∷ s) ≡ strike_line n s
unfolding strike_line
strike_here n q s h = rw (eq-eqb q.number n h) refl

-- another line stays
pub strike_past : (n : ℕ) (q : Site) (s : List Site) → q.number ≢ n → strike_line n (q ∷ s) ≡ q ∷ strike_line n s
unfolding strike_line
strike_past n q s h = rw (ne_eqb q.number n h) refl

-- the line is moved
pub move_here : (n : ℕ) (p : Position) (q : Site) (s : List Site) → q.number ≡ n → move_line n p (q ∷ s) ≡ site_as n p ∷ move_line n p s
unfolding move_line
move_here n p q s h = rw (eq-eqb q.number n h) refl

-- another line stays
pub move_past : (n : ℕ) (p : Position) (q : Site) (s : List Site) → q.number ≢ n → move_line n p (q ∷ s) ≡ q ∷ move_line n p s
unfolding move_line
move_past n p q s h = rw (ne_eqb q.number n h) refl

-- the line is held
pub holds_here : (n : ℕ) (q : Site) (s : List Site) → q.number ≡ n → holds n (q ∷ s) ≡ true
unfolding holds
holds_here n q s h = rw (eq-eqb q.number n h) refl

-- another line says nothing
pub holds_past : (n : ℕ) (q : Site) (s : List Site) → q.number ≢ n → holds n (q ∷ s) ≡ holds n s
unfolding holds
holds_past n q s h = rw (ne_eqb q.number n h) refl

-- ---- what is held

-- A LINE'S NUMBER IS HELD
pub member_holds : (n : ℕ) (s : List Site) (p : Site) → Memᴰ p s → p.number ≡ n → holds n s ≡ true
member_holds n [] p m e = absurd (Memᴰ.not-nil m)
member_holds n (q ∷ s) p m e = go (ℕ_discrete q.number n) (Memᴰ.cases_cons m) (λ k. member_holds n s p k e)
  where
    go : Dec (q.number ≡ n) → (p ≡ q) ⊎ Memᴰ p s → (Memᴰ p s → holds n s ≡ true) → holds n (q ∷ s) ≡ true
    go (yes h) k ih = holds_here n q s h
    go (no h) (inl k) ih = absurd (h (ap (λ (x : Site). x.number) (sym k) ∙ e))
    go (no h) (inr k) ih = holds_past n q s h ∙ ih k

-- A HELD NUMBER HAS A LINE
pub holds_member : (n : ℕ) (s : List Site) → holds n s ≡ true → HeldLine n s
unfolding holds
holds_member n [] h = absurd (true≢false (sym h))
holds_member n (q ∷ s) h = go (ℕ_discrete q.number n) (holds_member n s)
  where
    go : Dec (q.number ≡ n) → (holds n s ≡ true → HeldLine n s) → HeldLine n (q ∷ s)
    go (yes k) ih = record { line = q; held = Memᴰ.head refl; named = k }
    go (no k) ih =
        let r : HeldLine n s = ih (sym (holds_past n q s k) ∙ h) in
        record { line = r.line; held = Memᴰ.tail r.held; named = r.named }

-- a number that no line has is not held
pub absent_holds : (n : ℕ) (s : List Site) → ((p : Site) → Memᴰ p s → p.number ≢ n) → holds n s ≡ false
unfolding holds
absent_holds n [] h = refl
absent_holds n (q ∷ s) h = holds_past n q s (h q (Memᴰ.head refl)) ∙ absent_holds n s (λ p m. h p (Memᴰ.tail m))

-- no line has a number that is not held
pub holds_absent : (n : ℕ) (s : List Site) → holds n s ≡ false → (p : Site) → Memᴰ p s → p.number ≢ n
holds_absent n s h p m e = true≢false (sym (member_holds n s p m e) ∙ h)

-- ---- rising lists

-- what follows the first line rises
pub rising_tail : (p : Site) (s : List Site) → Rising (p ∷ s) → Rising s
rising_tail p [] r = tt
rising_tail p (q ∷ s) r = r.1

-- and is higher than the first line
pub rising_head : (p : Site) (s : List Site) → Rising (p ∷ s) → AllAbove p.number s
rising_head p [] r q m = absurd (Memᴰ.not-nil m)
rising_head p (q ∷ s) r x m = go (Memᴰ.cases_cons m) (rising_head q s r.1 x)
  where
    go : (x ≡ q) ⊎ Memᴰ x s → (Memᴰ x s → q.number < x.number) → p.number < x.number
    go (inl e) ih = omega (arith, ap (λ (y : Site). y.number) e, r.0)
    go (inr k) ih = omega (arith, ih k, r.0)

-- before a site of a rising list the numbers are lower
pub rising_below : (a : List Site) (p : Site) (b : List Site) → Rising (a ++ (p ∷ b)) → AllBelow a p.number
rising_below [] p b r q m = absurd (Memᴰ.not-nil m)
rising_below (x ∷ a) p b r q m = go (Memᴰ.cases_cons m) (rising_below a p b (rising_tail x (a ++ (p ∷ b)) r) q)
  where
    go : (q ≡ x) ⊎ Memᴰ q a → (Memᴰ q a → q.number < p.number) → q.number < p.number
    go (inl e) ih = omega (arith, ap (λ (y : Site). y.number) e, rising_head x (a ++ (p ∷ b)) r p (Memᴰ.append_right a (Memᴰ.head refl)))
    go (inr k) ih = ih k

-- NO NUMBER TWICE
pub rising_one : (s : List Site) → Rising s → (p q : Site) → Memᴰ p s → Memᴰ q s → p.number ≡ q.number → p ≡ q
rising_one [] r p q m k e = absurd (Memᴰ.not-nil m)
rising_one (x ∷ s) r p q m k e = go (Memᴰ.cases_cons m) (Memᴰ.cases_cons k) (rising_one s (rising_tail x s r) p q)
  where
    go : (p ≡ x) ⊎ Memᴰ p s → (q ≡ x) ⊎ Memᴰ q s → (Memᴰ p s → Memᴰ q s → p.number ≡ q.number → p ≡ q) → p ≡ q
    go (inl f) (inl g) ih = f ∙ sym g
    go (inl f) (inr g) ih = absurd (omega (arith, ap (λ (y : Site). y.number) f, rising_head x s r q g))
    go (inr f) (inl g) ih = absurd (omega (arith, ap (λ (y : Site). y.number) g, rising_head x s r p f))
    go (inr f) (inr g) ih = ih f g e

-- ---- a line is written

write_new : (p : Site) (s : List Site) → Memᴰ p (write_line p s)
unfolding write_line
write_new p [] = Memᴰ.head refl
write_new p (q ∷ s) = go (ltb p.number q.number) (write_new p s)
  where
    go : (c : Bool) → Memᴰ p (write_line p s) → Memᴰ p (cond c (p ∷ q ∷ s) (q ∷ write_line p s))
    go true ih = Memᴰ.head refl
    go false ih = Memᴰ.tail ih

write_keeps : (p : Site) (s : List Site) (x : Site) → Memᴰ x s → Memᴰ x (write_line p s)
unfolding write_line
write_keeps p [] x m = Memᴰ.tail m
write_keeps p (q ∷ s) x m = go (ltb p.number q.number) (Memᴰ.cases_cons m) (write_keeps p s x)
  where
    go : (c : Bool) → (x ≡ q) ⊎ Memᴰ x s → (Memᴰ x s → Memᴰ x (write_line p s)) → Memᴰ x (cond c (p ∷ q ∷ s) (q ∷ write_line p s))
    go true k ih = Memᴰ.tail m
    go false (inl e) ih = Memᴰ.head e
    go false (inr k) ih = Memᴰ.tail (ih k)

write_back : (p : Site) (s : List Site) (x : Site) → Memᴰ x (write_line p s) → Memᴰ x (p ∷ s)
unfolding write_line
write_back p [] x m = m
write_back p (q ∷ s) x m₀ = go (ltb p.number q.number) (write_back p s x) m₀
  where
    past : (x ≡ p) ⊎ Memᴰ x s → Memᴰ x (p ∷ q ∷ s)
    past (inl e) = Memᴰ.head e
    past (inr k) = Memᴰ.tail (Memᴰ.tail k)

    cases : (Memᴰ x (write_line p s) → Memᴰ x (p ∷ s)) → (x ≡ q) ⊎ Memᴰ x (write_line p s) → Memᴰ x (p ∷ q ∷ s)
    cases ih (inl e) = Memᴰ.tail (Memᴰ.head e)
    cases ih (inr k) = past (Memᴰ.cases_cons (ih k))

    go : (c : Bool) → (Memᴰ x (write_line p s) → Memᴰ x (p ∷ s)) → Memᴰ x (cond c (p ∷ q ∷ s) (q ∷ write_line p s)) → Memᴰ x (p ∷ q ∷ s)
    go true ih m = m
    go false ih m = cases ih (Memᴰ.cases_cons m)

-- THE SITES OF A WRITTEN BOOK are those before and the new one
pub write_sites : (p : Site) (s : List Site) → SameSites (p ∷ s) (write_line p s)
write_sites p s = record { to = λ x m. go x (Memᴰ.cases_cons m); back = write_back p s }
  where
    cast : (x : Site) → x ≡ p → (t : List Site) → Memᴰ p t → Memᴰ x t
    cast x e t m = rw e m

    go : (x : Site) → (x ≡ p) ⊎ Memᴰ x s → Memᴰ x (write_line p s)
    go x (inl e) = cast x e (write_line p s) (write_new p s)
    go x (inr m) = write_keeps p s x m

-- one line more
pub write_length : (p : Site) (s : List Site) → length (write_line p s) ≡ suc (length s)
unfolding write_line
write_length p [] = refl
write_length p (q ∷ s) = go (ltb p.number q.number) (write_length p s)
  where
    go : (c : Bool) → length (write_line p s) ≡ suc (length s) → length (cond c (p ∷ q ∷ s) (q ∷ write_line p s)) ≡ suc (suc (length s))
    go true ih = refl
    go false ih = ap suc ih

-- before all lines, where they are higher
pub write_first : (p : Site) (s : List Site) → AllAbove p.number s → write_line p s ≡ p ∷ s
unfolding write_line
write_first p [] h = refl
write_first p (q ∷ s) h = write_before p q s (h q (Memᴰ.head refl))

-- WRITING IN A SORTED ARRAY: between the lower lines and the higher ones
pub write_between : (p : Site) (a b : List Site) → AllBelow a p.number → AllAbove p.number b → write_line p (a ++ b) ≡ a ++ (p ∷ b)
write_between p [] b ha hb = write_first p b hb
write_between p (q ∷ a) b ha hb =
    let h : q.number < p.number = ha q (Memᴰ.head refl) in
    write_past p q (a ++ b) (omega arith) ∙ ap (λ (y : List Site). q ∷ y) (write_between p a b (λ x m. ha x (Memᴰ.tail m)) hb)

-- what is held then: the new number and those before
pub holds_write : (n : ℕ) (p : Site) (s : List Site) → holds n (write_line p s) ≡ (eqb p.number n || holds n s)
unfolding write_line holds
holds_write n p [] = refl
holds_write n p (q ∷ s) = go (ltb p.number q.number) (holds_write n p s)
  where
    swap : (x y z : Bool) → (x || (y || z)) ≡ (y || (x || z))
    swap true true z = refl
    swap true false z = refl
    swap false y z = refl

    go : (c : Bool) → holds n (write_line p s) ≡ (eqb p.number n || holds n s)
        → holds n (cond c (p ∷ q ∷ s) (q ∷ write_line p s)) ≡ (eqb p.number n || (eqb q.number n || holds n s))
    go true ih = refl
    go false ih = rw ih (swap (eqb q.number n) (eqb p.number n) (holds n s))

-- THE ORDER OF WRITING is nothing to the book
pub write_comm : (p q : Site) (s : List Site) → p.number ≢ q.number → write_line p (write_line q s) ≡ write_line q (write_line p s)
unfolding write_line
write_comm p q [] ne = go (dec_lt p.number q.number)
  where
    go : Dec (p.number < q.number) → write_line p (q ∷ []) ≡ write_line q (p ∷ [])
    go (yes l) = simp (lt-ltb p.number q.number l, le-ltb q.number p.number (omega arith))
    go (no l) = simp (le-ltb p.number q.number (omega arith), lt-ltb q.number p.number (omega arith))
write_comm p q (x ∷ s) ne = go (dec_lt p.number x.number) (dec_lt q.number x.number) (dec_lt p.number q.number) (write_comm p q s ne)
  where
    go : Dec (p.number < x.number) → Dec (q.number < x.number) → Dec (p.number < q.number) → write_line p (write_line q s) ≡ write_line q (write_line p s)
        → write_line p (write_line q (x ∷ s)) ≡ write_line q (write_line p (x ∷ s))
    go (yes e) (yes f) (yes g) ih =
        simp (lt-ltb p.number x.number e, lt-ltb q.number x.number f, lt-ltb p.number q.number g, le-ltb q.number p.number (omega arith))
    go (yes e) (yes f) (no g) ih =
        simp (lt-ltb p.number x.number e, lt-ltb q.number x.number f, le-ltb p.number q.number (omega arith), lt-ltb q.number p.number (omega arith))
    go (yes e) (no f) g ih =
        simp (lt-ltb p.number x.number e, le-ltb q.number x.number (omega arith), le-ltb q.number p.number (omega arith))
    go (no e) (yes f) g ih =
        simp (le-ltb p.number x.number (omega arith), lt-ltb q.number x.number f, le-ltb p.number q.number (omega arith))
    go (no e) (no f) g ih =
        simp (le-ltb p.number x.number (omega arith), le-ltb q.number x.number (omega arith)) (ap (λ (y : List Site). x ∷ y) ih)

-- ---- a line is struck

-- what is left was there
pub strike_from : (n : ℕ) (s : List Site) (x : Site) → Memᴰ x (strike_line n s) → Memᴰ x s
unfolding strike_line
strike_from n [] x m = m
strike_from n (q ∷ s) x m₀ = go (eqb q.number n) (strike_from n s x) m₀
  where
    cases : (Memᴰ x (strike_line n s) → Memᴰ x s) → (x ≡ q) ⊎ Memᴰ x (strike_line n s) → Memᴰ x (q ∷ s)
    cases ih (inl e) = Memᴰ.head e
    cases ih (inr k) = Memᴰ.tail (ih k)

    go : (c : Bool) → (Memᴰ x (strike_line n s) → Memᴰ x s) → Memᴰ x (cond c (strike_line n s) (q ∷ strike_line n s)) → Memᴰ x (q ∷ s)
    go true ih m = Memᴰ.tail (ih m)
    go false ih m = cases ih (Memᴰ.cases_cons m)

-- A STRUCK NUMBER IS GONE
pub strike_other : (n : ℕ) (s : List Site) (x : Site) → Memᴰ x (strike_line n s) → x.number ≢ n
unfolding strike_line
strike_other n [] x m = absurd (Memᴰ.not-nil m)
strike_other n (q ∷ s) x m = go (ℕ_discrete q.number n) (strike_other n s x)
  where
    cases : q.number ≢ n → (Memᴰ x (strike_line n s) → x.number ≢ n) → (x ≡ q) ⊎ Memᴰ x (strike_line n s) → x.number ≢ n
    cases h ih (inl e) = λ f. h (ap (λ (y : Site). y.number) (sym e) ∙ f)
    cases h ih (inr k) = ih k

    go : Dec (q.number ≡ n) → (Memᴰ x (strike_line n s) → x.number ≢ n) → x.number ≢ n
    go (yes h) ih = ih (rw (strike_here n q s h) at m)
    go (no h) ih = cases h ih (Memᴰ.cases_cons (rw (strike_past n q s h) at m))

-- the other lines stay
pub strike_keeps : (n : ℕ) (s : List Site) (x : Site) → Memᴰ x s → x.number ≢ n → Memᴰ x (strike_line n s)
strike_keeps n [] x m h = absurd (Memᴰ.not-nil m)
strike_keeps n (q ∷ s) x m h = go (ℕ_discrete q.number n) (Memᴰ.cases_cons m) (λ k. strike_keeps n s x k h)
  where
    go : Dec (q.number ≡ n) → (x ≡ q) ⊎ Memᴰ x s → (Memᴰ x s → Memᴰ x (strike_line n s)) → Memᴰ x (strike_line n (q ∷ s))
    go (yes e) (inl k) ih = absurd (h (ap (λ (y : Site). y.number) k ∙ e))
    go (yes e) (inr k) ih = rw (strike_here n q s e) (ih k)
    go (no e) (inl k) ih = rw (strike_past n q s e) (Memᴰ.head k)
    go (no e) (inr k) ih = rw (strike_past n q s e) (Memᴰ.tail (ih k))

-- THE SITES OF A BOOK are the one that is struck and those left
pub strike_sites : (n : ℕ) (s : List Site) (p : Site) → Rising s → Memᴰ p s → p.number ≡ n → SameSites s (p ∷ strike_line n s)
strike_sites n s p r m e = record { to = to; back = λ x k. back x (Memᴰ.cases_cons k) }
  where
    to : (x : Site) → Memᴰ x s → Memᴰ x (p ∷ strike_line n s)
    to x k = go (ℕ_discrete x.number n)
      where
        go : Dec (x.number ≡ n) → Memᴰ x (p ∷ strike_line n s)
        go (yes h) = Memᴰ.head (rising_one s r x p k m (h ∙ sym e))
        go (no h) = Memᴰ.tail (strike_keeps n s x k h)

    back : (x : Site) → (x ≡ p) ⊎ Memᴰ x (strike_line n s) → Memᴰ x s
    back x (inl f) = rw f m
    back x (inr k) = strike_from n s x k

-- nothing is struck where the number is not held
pub strike_none : (n : ℕ) (s : List Site) → holds n s ≡ false → strike_line n s ≡ s
unfolding strike_line
strike_none n [] h = refl
strike_none n (q ∷ s) h =
    let k : q.number ≢ n = holds_absent n (q ∷ s) h q (Memᴰ.head refl) in
    strike_past n q s k ∙ ap (λ (y : List Site). q ∷ y) (strike_none n s (sym (holds_past n q s k) ∙ h))

-- the struck number is held no more
pub holds_strike : (n : ℕ) (s : List Site) → holds n (strike_line n s) ≡ false
holds_strike n s = absent_holds n (strike_line n s) (strike_other n s)

-- ---- a line is moved

-- as many lines
pub move_length : (n : ℕ) (p : Position) (s : List Site) → length (move_line n p s) ≡ length s
unfolding move_line
move_length n p [] = refl
move_length n p (q ∷ s) = go (eqb q.number n) (move_length n p s)
  where
    go : (c : Bool) → length (move_line n p s) ≡ length s → length (cond c (site_as n p ∷ move_line n p s) (q ∷ move_line n p s)) ≡ suc (length s)
    go true ih = ap suc ih
    go false ih = ap suc ih

-- nothing is moved where the number is not held
pub move_none : (n : ℕ) (p : Position) (s : List Site) → holds n s ≡ false → move_line n p s ≡ s
unfolding move_line
move_none n p [] h = refl
move_none n p (q ∷ s) h =
    let k : q.number ≢ n = holds_absent n (q ∷ s) h q (Memᴰ.head refl) in
    move_past n p q s k ∙ ap (λ (y : List Site). q ∷ y) (move_none n p s (sym (holds_past n q s k) ∙ h))

-- MOVING is striking and writing
pub move_is : (n : ℕ) (p : Position) (s : List Site) → Rising s → holds n s ≡ true → move_line n p s ≡ write_line (site_as n p) (strike_line n s)
unfolding holds
move_is n p [] r h = absurd (true≢false (sym h))
move_is n p (q ∷ s) r h = go (ℕ_discrete q.number n) (move_is n p s (rising_tail q s r))
  where
    go : Dec (q.number ≡ n) → (holds n s ≡ true → move_line n p s ≡ write_line (site_as n p) (strike_line n s)) → move_line n p (q ∷ s) ≡ write_line (site_as n p) (strike_line n (q ∷ s))
    go (yes e) ih =
        let high : AllAbove n s = λ x m. omega (arith, e, rising_head q s r x m) in
        let none : holds n s ≡ false = absent_holds n s (λ x m f. omega (arith, f, high x m)) in
        move_here n p q s e
        ∙ ap (λ (y : List Site). site_as n p ∷ y) (move_none n p s none)
        ∙ sym (ap (write_line (site_as n p)) (strike_here n q s e ∙ strike_none n s none) ∙ write_first (site_as n p) s high)
    go (no e) ih =
        let held : holds n s ≡ true = sym (holds_past n q s e) ∙ h in
        let l : HeldLine n s = holds_member n s held in
        let low : q.number < n = omega (arith, l.named, rising_head q s r l.line l.held) in
        move_past n p q s e
        ∙ ap (λ (y : List Site). q ∷ y) (ih held)
        ∙ sym (ap (write_line (site_as n p)) (strike_past n q s e) ∙ write_past (site_as n p) q (strike_line n s) (omega arith))

-- one line less where a held number is struck
pub strike_length : (n : ℕ) (s : List Site) → Rising s → holds n s ≡ true → suc (length (strike_line n s)) ≡ length s
strike_length n s r h =
    let p : Position = record { east = 0; north = 0 } in
    sym (write_length (site_as n p) (strike_line n s)) ∙ ap length (sym (move_is n p s r h)) ∙ move_length n p s
