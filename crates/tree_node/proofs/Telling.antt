-- Answers that say whether something holds.
-- Assumes nothing.
use mathlib.Core.Path.{◌≡◌, sym}
use mathlib.Core.Bool.{Bool, true, false, ◌&&◌}
use lib.Dec.{eqb}
use Rattle.std.proofs.Common.{rules}
use Prim.Native.Nat.{ℕ}
use native.Mathlib.Omega.{arith}
use Rattle.tree_node.specs.declared.NodeEntry.{NodeEntry}
use Rattle.tree_node.specs.Told.{Told}

true≢false : true ≡ false → ⊥
true≢false e = let z : ◌≡◌ {A = ℕ} 0 1 = cc in omega arith

pub told_yes : {A B : Type 0} → A → B → Told true A B
told_yes a b = record { yes = λ q. (a, b); no = λ q x. true≢false q }

pub told_no : {A B : Type 0} → (A → ⊥) → Told false A B
told_no f = record { yes = λ q. absurd (true≢false (sym q)); no = λ q. f }

pub told_map : {r : Bool} {A B C D : Type 0} → (A → C) → (C → A) → (B → D) → Told r A B → Told r C D
told_map f g k t = record { yes = λ q. (f (t.yes q).0, k (t.yes q).1); no = λ q c. t.no q (g c) }

-- two entries with the same six numbers are equal
pub entry_eq : (a b : NodeEntry) → a.reference ≡ b.reference → a.west ≡ b.west → a.south ≡ b.south → a.east ≡ b.east → a.north ≡ b.north → a.spare ≡ b.spare → a ≡ b
entry_eq a b r w s e n z = λ i. record { reference = r i; west = w i; south = s i; east = e i; north = n i; spare = z i }

-- what the code's `==` of two entries says
pub same_told : (a b : NodeEntry) (r : Bool)
    → r ≡ eqb a.west b.west && (eqb a.south b.south && (eqb a.east b.east && (eqb a.north b.north && (eqb a.reference b.reference && eqb a.spare b.spare)))) → Told r (a ≡ b) (a ≡ b)
same_told a b r q = search rules
