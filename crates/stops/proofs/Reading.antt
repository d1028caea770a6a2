-- The parts of the input buffer.
-- Assumes nothing.
use mathlib.Core.Path.{◌≡◌, sym, ◌∙◌}
use mathlib.Core.List.{List}
use Prim.Native.Nat.{ℕ, ◌+◌, ◌-◌, ◌≤◌, ◌<◌}
use native.Mathlib.Omega.{arith}
use native.Mathlib.Nat.{zero-add}
use lib.ListN.{length, take, drop, get_or}
use lib.Seq.{get_or-take, get_or-drop, ext_get_or, length-take-le, length-slice}
use Rattle.words.specs.Words.{Copied}
use Rattle.stops.specs.Input.{KeptInput}

-- ---- keeping

pub kept : (used held left : ℕ) (s s' : List ℕ) → Copied s used s 0 left s' → left ≡ held - used
    → used ≤ held → held ≤ length s → KeptInput used held s left s'
kept used held left s s' m e u l =
    record {
      count = e;
      front =
          ext_get_or 0 (take left s') (drop used (take held s)) (front_length ∙ e ∙ sym (length-slice used held s l))
          (λ k q. at k (omega (arith, front_length)));
      len = m.only.len;
    }
  where
    front_length : length (take left s') ≡ left
    front_length = length-take-le left s' (omega (arith, m.only.len))

    at : (k : ℕ) → k < left → get_or (take left s') k 0 ≡ get_or (drop used (take held s)) k 0
    at k q =
        get_or-take left s' k 0 q ∙ (rw zero-add at (m.copied k q))
        ∙ sym (get_or-drop used (take held s) k 0 ∙ get_or-take held s (used + k) 0 (omega arith))
