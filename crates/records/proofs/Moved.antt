-- The record of a list has no position in it: it is the same, from whatever corner coordinates are counted.
-- Assumes nothing.
use mathlib.Core.Path.{◌≡◌, refl, ap, ◌∙◌}
use mathlib.Core.List.{List, [], ◌∷◌, ◌++◌, map}
use Prim.Native.Nat.{ℕ, suc}
use lib.ListN.{length}
use Rattle.grid.specs.declared.Leg.{Leg}
use Rattle.grid.specs.declared.Site.{Site}
use Rattle.split.specs.SplitList.{Entry}
use Rattle.split.specs.SplitOf.{split_of}
use Rattle.split.specs.Moved.{moved_leg, moved_site, moved_entry}
use Rattle.split.proofs.Moved.{moved_list}
use Rattle.records.specs.Bytes.{bytes2}
use Rattle.records.specs.ListRecord.{entry_bytes, list_bytes, record_bytes}

module _ (k : ℕ) where
  count_moved : (es : List Entry) → length (map (moved_entry k) es) ≡ length es
  count_moved [] = refl
  count_moved (e ∷ es) = ap suc (count_moved es)

  entries_moved : (es : List Entry) → list_bytes (map (moved_entry k) es) ≡ list_bytes es
  unfolding list_bytes entry_bytes
  entries_moved [] = refl
  entries_moved (e ∷ es) = ap (λ (b : List ℕ). entry_bytes e ++ b) (entries_moved es)

  -- THE SAME RECORD, byte for byte, from every corner
  pub moved_record : (l : Leg) (s : List Site) → record_bytes (split_of (moved_leg k l) (map (moved_site k) s)) ≡ record_bytes (split_of l s)
  unfolding record_bytes
  moved_record l s =
      ap record_bytes (moved_list k l s)
      ∙ (λ i. 0x3D ∷ bytes2 (count_moved (split_of l s) i) ++ entries_moved (split_of l s) i)
