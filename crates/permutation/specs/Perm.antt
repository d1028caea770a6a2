-- A list in another order. Document 01: the fresh table gets the book's sites "in any order"; and no entry of the
-- tree is lost or doubled, wherever it goes.
-- Assumes nothing.
use Rattle.std.specs.Prelude.{List, ◌∷◌}

-- one list is the other in another order, reached by exchanging neighbours: each element as often, and no other
pub data Perm {A : Type 0} : List A → List A → Type 0 where
  same : {l : List A} → Perm l l
  next : {x : A} {l r : List A} → Perm l r → Perm (x ∷ l) (x ∷ r)
  swap : {x y : A} {l : List A} → Perm (x ∷ y ∷ l) (y ∷ x ∷ l)
  trans : {l m r : List A} → Perm l m → Perm m r → Perm l r
