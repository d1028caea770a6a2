-- A node takes an entry or hands it back, and a parent's entry is set anew.
-- Assumes nothing.
use Rattle.std.specs.Prelude.{None, Some}
use mathlib.Core.Path.{◌≡◌, refl, subst, ◌∙◌}
use mathlib.Core.List.{List, [], ◌∷◌, ◌++◌, append-nil}
use Prim.Native.Nat.{ℕ, ◌≤◌}
use native.Mathlib.Omega.{arith}
use lib.ListN.{length, set}
use Rattle.limits.specs.Limits.{max_entries}
use Rattle.words.proofs.Frame.{only_refl}
use Rattle.tree_node.specs.declared.NodeEntry.{NodeEntry}
use Rattle.tree_node.specs.Node.{entries, Wrote}
use Rattle.tree_node.specs.Boxes.{hull}
use Rattle.tree_add.specs.Steps.{spill, PutBehind}

pub placed_kept : (n : ℕ) (e : NodeEntry) (b b' : List ℕ) → Wrote n (entries b n ++ (e ∷ [])) b b' → PutBehind None n e b b'
unfolding spill
placed_kept n e b b' w =
    record { here = append-nil (entries b' n) ∙ w.here; full = omega arith; only = w.only }

pub placed_over : (n c : ℕ) (e : NodeEntry) (b : List ℕ) → c ≡ length (entries b n) → max_entries ≤ c → PutBehind (Some e) n e b b
unfolding spill
placed_over n c e b q ge = record { here = refl; full = omega arith; only = only_refl }

pub renewed : (n k c : ℕ) (f : NodeEntry) (b b' : List ℕ) → f ≡ hull c (entries b c) → Wrote n (set (entries b n) k f) b b' → Wrote n (set (entries b n) k (hull c (entries b c))) b b'
renewed n k c f b b' q w = subst (λ (x : NodeEntry). Wrote n (set (entries b n) k x) b b') q w
