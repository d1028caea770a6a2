-- A row that is the hull of the sites dealt with stands for their split list.
-- Assumes nothing.
use mathlib.Core.Path.{◌≡◌}
use mathlib.Core.List.{List, [], ◌++◌, Memᴰ}
use Prim.Native.Nat.{ℕ, ◌≤◌}
use Rattle.grid.specs.declared.Site.{Site}
use Rattle.grid.specs.declared.Leg.{Leg}
use Rattle.split.specs.SplitList.{Numbered, SameSites}
use Rattle.split.specs.Hull.{point_of}
use Rattle.split.specs.SplitOf.{split_of}
use Rattle.split.specs.Skip.{ShutOut}
use Rattle.split.proofs.Dealing.{none_dealt, skipped, hull_list}
use Rattle.list_row.specs.Vertices.{stack, Lists, entries_in}

module _ (l : Leg) (t r : List ℕ) where
  pub lists_none : Lists l t r 0 []
  lists_none = none_dealt l

  -- and the computed one of the same sites in any order
  pub lists_is : (k : ℕ) (s u : List Site) → Numbered s → Numbered u → SameSites u s → Lists l t r k s → entries_in l t r k ≡ split_of l u
  lists_is k s u n m same d = hull_list l s u n m same (stack l t r k) d

  -- SKIPPED: sites at or beyond a corner that the list shuts out
  pub lists_skipped : (k a c : ℕ) → ShutOut (stack l t r k) a c → (q : List Site)
      → ((p : Site) → Memᴰ p q → (a ≤ (point_of l p).a) × (c ≤ (point_of l p).c)) → (s : List Site) → Lists l t r k s → Lists l t r k (q ++ s)
  lists_skipped k a c w q far s d = skipped l (stack l t r k) a c w q far s d
