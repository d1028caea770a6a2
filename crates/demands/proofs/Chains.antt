-- A chain of steps leaves a sound table of the book that the same commands leave.
-- Assumes nothing.
use mathlib.Core.Path.{◌≡◌, refl, sym, subst, ◌∙◌}
use mathlib.Core.Bool.{Bool, true, false, ◌||◌, true≢false}
use mathlib.Core.List.{List, [], ◌∷◌, ◌++◌}
use Prim.Native.Nat.{ℕ}
use Rattle.words.specs.Words.{Only}
use Rattle.words.proofs.Frame.{only_refl, only_trans}
use Rattle.book.specs.declared.Command.{Command}
use Rattle.book.specs.declared.Command.TheVariants.{Add, Remove, Move, List as ListOf, Stand, Print, Begin, Corner}
use Rattle.book.specs.Book.{Book, change}
use Rattle.book.specs.Reply.{Reply, done, refused, listed}
use Rattle.book.specs.Answer.{reads, after}
use Rattle.book.specs.Run.{Turn, after_all}
use Rattle.table_header.specs.Layout.{tour_start, tour_end}
use Rattle.table_rules.specs.Table.{Sound, book_of}
use Rattle.demands.specs.Step.{Holds, keeps, Left, tours, TourAlone, Step, Chain}
use Rattle.demands.specs.Step.Chain.{none, next}
use Rattle.demands.specs.Demands.{AllKeep, AllTour}

-- what changes nothing changes nothing
reads_same : (c : Command) (b : Book) → reads c ≡ true → change c b ≡ b
unfolding change
reads_same (Add n l) b e = absurd (true≢false (sym e))
reads_same (Remove n) b e = absurd (true≢false (sym e))
reads_same (Move n l) b e = absurd (true≢false (sym e))
reads_same (ListOf l) b e = refl
reads_same (Stand l) b e = absurd (true≢false (sym e))
reads_same Print b e = refl
reads_same (Begin p) b e = absurd (true≢false (sym e))
reads_same (Corner p) b e = absurd (true≢false (sym e))

-- an accepted command
accepted_holds : (t : List ℕ) → Sound t → (c : Command) (t' : List ℕ) (q : Bool) → reads c ≡ q → Left q t (change c (book_of t)) t' → Holds t' (change c (book_of t))
accepted_holds t s c t' true e h = rw h (record { sound = s; book = sym (reads_same c (book_of t) e) })
accepted_holds t s c t' false e h = h

pub step_holds : (t : List ℕ) → Sound t → (c : Command) (y : Reply) (t' : List ℕ) → Step t c y t' → Holds t' (after (book_of t) c y)
step_holds t s c done t' h = accepted_holds t s c t' (reads c) refl h.0
step_holds t s c (refused x) t' h = rw h.0 (record { sound = s; book = refl })
step_holds t s c (listed es) t' h = accepted_holds t s c t' (reads c) refl h.0

-- THE CHAIN
pub chain_holds : (t : List ℕ) → Sound t → (us : List Turn) (t' : List ℕ) → Chain t us t' → Holds t' (after_all (book_of t) us)
chain_holds t s us t' none = record { sound = s; book = refl }
chain_holds t s us t' (next {t₁ = t₁} {u = u} {us = more} h k) =
    let a = step_holds t s u.command u.reply t₁ h in
    rw (← a.book) (chain_holds t₁ a.sound more t' k)

-- a step that keeps the table
pub step_kept : (t : List ℕ) (c : Command) (y : Reply) (t' : List ℕ) → keeps c y ≡ true → Step t c y t' → t' ≡ t
step_kept t c y t' e s = subst (λ (q : Bool). Left q t (change c (book_of t)) t') e s.0

-- and a chain of them
pub chain_kept : (t : List ℕ) (us : List Turn) (t' : List ℕ) → AllKeep us → Chain t us t' → t' ≡ t
chain_kept t us t' n none = refl
chain_kept t us t' n (next {t₁ = t₁} {u = u} {us = more} s k) = chain_kept t₁ more t' n.1 k ∙ step_kept t u.command u.reply t₁ n.0 s

-- a step that changes the tour alone, if it changes anything
step_toured : (t : List ℕ) (c : Command) (y : Reply) (t' : List ℕ) → (keeps c y || tours c) ≡ true → Step t c y t' → Only tour_start tour_end t t'
step_toured t c y t' e s = go (keeps c y) refl (tours c) refl e
  where
    go : (p : Bool) → keeps c y ≡ p → (q : Bool) → tours c ≡ q → (p || q) ≡ true → Only tour_start tour_end t t'
    go true k q g f = rw (step_kept t c y t' k s) only_refl
    go false k true g f = subst (λ (z : Bool). TourAlone z t t') g s.1
    go false k false g f = absurd (true≢false (sym f))

-- and a chain of them
pub chain_toured : (t : List ℕ) (us : List Turn) (t' : List ℕ) → AllTour us → Chain t us t' → Only tour_start tour_end t t'
chain_toured t us t' n none = only_refl
chain_toured t us t' n (next {t₁ = t₁} {u = u} {us = more} s k) =
    only_trans (step_toured t u.command u.reply t₁ n.0 s) (chain_toured t₁ more t' n.1 k)

-- a chain's first steps
pub chain_front : (t : List ℕ) (us vs : List Turn) (t' : List ℕ) → Chain t (us ++ vs) t' → (t₁ : List ℕ) × Chain t us t₁
chain_front t [] vs t' k = (t, none)
chain_front t (u ∷ us) vs t' (next {t₁ = t₁} h k) = let r = chain_front t₁ us vs t' k in (r.0, next h r.1)
