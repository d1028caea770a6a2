-- What holds of each entry of a list.
-- Assumes nothing.
use mathlib.Core.List.{List, [], ◌∷◌, ◌++◌}
use Prim.Native.Nat.{ℕ, zero, suc, ◌<◌}
use native.Mathlib.Omega.{arith}
use lib.ListN.{length, get_or}
use Rattle.tree_node.specs.declared.NodeEntry.{NodeEntry}
use Rattle.tree_rules.specs.Tree.{Each}

pub each_at : (P : NodeEntry → Type 0) (l : List NodeEntry) (k : ℕ) (d : NodeEntry) → Each P l → k < length l → P (get_or l k d)
unfolding Each
each_at P [] k d h lt = absurd (omega arith)
each_at P (e ∷ l) zero d h lt = h.0
each_at P (e ∷ l) (suc k) d h lt = each_at P l k d h.1 (omega arith)

pub each_append : (P : NodeEntry → Type 0) (a b : List NodeEntry) → Each P a → Each P b → Each P (a ++ b)
unfolding Each
each_append P [] b p q = q
each_append P (e ∷ a) b p q = (p.0, each_append P a b p.1 q)

pub each_left : (P : NodeEntry → Type 0) (a b : List NodeEntry) → Each P (a ++ b) → Each P a
unfolding Each
each_left P [] b p = tt
each_left P (e ∷ a) b p = (p.0, each_left P a b p.1)

pub each_right : (P : NodeEntry → Type 0) (a b : List NodeEntry) → Each P (a ++ b) → Each P b
unfolding Each
each_right P [] b p = p
each_right P (e ∷ a) b p = each_right P a b p.1

pub each_snoc : (P : NodeEntry → Type 0) (a : List NodeEntry) (e : NodeEntry) → Each P a → P e → Each P (a ++ (e ∷ []))
unfolding Each
each_snoc P a e p q = each_append P a (e ∷ []) p (q, tt)

pub each_map : (P Q : NodeEntry → Type 0) → ((e : NodeEntry) → P e → Q e) → (l : List NodeEntry) → Each P l → Each Q l
unfolding Each
each_map P Q f [] p = tt
each_map P Q f (e ∷ l) p = (f e p.0, each_map P Q f l p.1)

pub each_both : (P Q R : NodeEntry → Type 0) → ((e : NodeEntry) → P e → Q e → R e) → (l : List NodeEntry) → Each P l → Each Q l → Each R l
unfolding Each
each_both P Q R f [] p q = tt
each_both P Q R f (e ∷ l) p q = (f e p.0 q.0, each_both P Q R f l p.1 q.1)
