-- Entries read one by one until one has what is asked.
-- Assumes nothing.
use Rattle.std.specs.Prelude.{Bool, true, false, Option, None, Some}
use mathlib.Core.Path.{◌≡◌, refl, subst}
use mathlib.Core.List.{List}
use Prim.Native.Nat.{ℕ, ◌+◌, ◌≤◌, ◌<◌}
use native.Mathlib.Omega.{arith}
use native.Mathlib.Decide.{dec_lt}
use lib.ListN.{length, get_or}
use Rattle.tree_node.specs.declared.NodeEntry.{NodeEntry}
use Rattle.tree_node.specs.Node.{no_entry}
use Rattle.tree_node.specs.Told.{Told}
use Rattle.tree_remove.specs.Take.{Passed, First, Next, Denied, NextTold}

-- one entry after the other
module _ (R : NodeEntry → Bool → Type 0) (l : List NodeEntry) (k : ℕ) where
  pub denied_one : (i : ℕ) → Denied R l k i → i < length l → R (get_or l i no_entry) false → Denied R l k (i + 1)
  denied_one i s lt a = record { least = omega (arith, s.least); most = omega arith; none = λ j lo hi. go j lo hi (dec_lt j i) }
    where
      go : (j : ℕ) → k ≤ j → j < i + 1 → Dec (j < i) → R (get_or l j no_entry) false
      go j lo hi (yes d) = s.none j lo d
      go j lo hi (no d) = let z : i ≡ j = omega arith in subst (λ (x : ℕ). R (get_or l x no_entry) false) z a

-- the answers say whether P holds
module _ (P : NodeEntry → Type 0) (R : NodeEntry → Bool → Type 0) (tells : (f : NodeEntry) (t : Bool) → R f t → Told t (P f) (P f)) (l : List NodeEntry) (k : ℕ) where
  passed : (i : ℕ) → Denied R l k i → Passed P l k i
  passed i s = record { least = s.least; most = s.most; none = λ j lo hi. (tells _ false (s.none j lo hi)).no refl }

  pub next_told : (r : Option ℕ) → NextTold R l k r → Next P l k r
  unfolding NextTold Next
  next_told None s = record { passed = passed (length l) s; here = λ lt. absurd (omega arith) }
  next_told (Some i) s = (record { passed = passed i s.0; here = λ _. ((tells _ true s.2).yes refl).0 }, s.1)

-- what is found
module _ (P : NodeEntry → Type 0) (l : List NodeEntry) (k : ℕ) (r : Option ℕ) (s : Next P l k r) where
  pub next_some : (i : ℕ) → r ≡ Some i → First P l k i × (i < length l)
  unfolding Next
  next_some i q = let x : Next P l k (Some i) = rw q at s in x

  pub next_none : r ≡ None → First P l k (length l)
  unfolding Next
  next_none q = let x : Next P l k None = rw q at s in x
