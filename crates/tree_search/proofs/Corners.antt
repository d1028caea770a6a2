-- The corner of an entry's box, in hand.
-- Assumes nothing.
use mathlib.Core.Path.{◌≡◌, ap, subst, subst⁻¹, ◌∙◌}
use mathlib.Core.List.{List}
use mathlib.Core.Logic.{⊎_elim}
use Prim.Native.Nat.{ℕ, ◌+◌, ◌≤◌, ◌<◌}
use native.Mathlib.Omega.{arith}
use lib.ListN.{length, get_or, set}
use lib.Seq.{get_or-set_same, get_or-set_other}
use Rattle.grid.specs.declared.Position.{Position}
use Rattle.grid.specs.declared.Leg.{Leg}
use Rattle.grid.specs.declared.Area.{Area}
use Rattle.grid.specs.Area.{AreaOnGrid, area_distance}
use Rattle.split.specs.Skip.{ShutOut}
use Rattle.list_row.specs.Vertices.{stack}
use Rattle.grid.specs.declared.Corner.{Corner}
use Rattle.list_skip.specs.Skipping.{IsCorner}
use Rattle.tree_node.specs.declared.NodeEntry.{NodeEntry}
use Rattle.tree_node.specs.Node.{entries, no_entry}
use Rattle.tree_node.proofs.Counting.{le_or_lt}
use Rattle.tree_rules.specs.Tree.{Each}
use Rattle.tree_rules.proofs.Every.{each_at}
use Rattle.tree_search.specs.Sites.{area_of, BoxOnGrid}
use Rattle.tree_search.specs.Searching.{entry_of, Measured, Skips}

-- a is the box of e, which was read as d
module _ (a : Area) (e d : NodeEntry) (qa : a ≡ area_of e) (qe : e ≡ d) where
  pub area_placed : BoxOnGrid d → AreaOnGrid a
  area_placed p = subst⁻¹ AreaOnGrid (qa ∙ ap area_of qe) p

  pub area_far : (q : Position) {r : ℕ} → r ≡ area_distance a q → r ≡ area_distance (area_of d) q
  area_far q h = h ∙ ap (λ (b : Area). area_distance b q) (qa ∙ ap area_of qe)

pub placed_at : (t : List ℕ) (n i : ℕ) → Each BoxOnGrid (entries t n) → i < length (entries t n) → BoxOnGrid (entry_of t n i)
placed_at t n i p lt = each_at BoxOnGrid (entries t n) i no_entry p lt

-- a list that shuts out the corner of e's box shuts out the box
pub corner_skips : (l : Leg) (t r : List ℕ) (n : ℕ) (e : NodeEntry) (k : Corner) → IsCorner l (area_of e) k → ShutOut (stack l t r n) k.a k.c → Skips l t r n e
corner_skips l t r n e k c w =
    subst
    (λ (x : ℕ). ShutOut (stack l t r n) (area_distance (area_of e) l.s) x)
    c.c_is
    (subst (λ (x : ℕ). ShutOut (stack l t r n) x k.c) c.a_is w)

-- The loop of `measure`.
module _ {l : Leg} {t : List ℕ} {n : ℕ} where
  pub measured_none : (far : List Corner) → Measured l t n 0 far
  measured_none far = record { is = λ i h. absurd (omega arith) }

  pub measured_next : {i : ℕ} {far : List Corner} {x : Corner} → Measured l t n i far → i < length far → IsCorner l (area_of (entry_of t n i)) x
      → Measured l t n (i + 1) (set far i x)
  measured_next {i} {far} {x} m lt w = record { is = both }
    where
      none : Corner
      none = record { a = 0; c = 0 }

      both : (j : ℕ) → j < i + 1 → IsCorner l (area_of (entry_of t n j)) (get_or (set far i x) j none)
      both j h =
          ⊎_elim
          (λ (g : i ≤ j).
          let e : i ≡ j = omega arith in
          subst (λ (y : ℕ). IsCorner l (area_of (entry_of t n y)) (get_or (set far i x) y none)) e (rw (get_or-set_same far i x none lt) w))
          (λ (g : j < i). rw (get_or-set_other far i j x none (λ w. omega arith)) (m.is j g))
          (le_or_lt i j)
