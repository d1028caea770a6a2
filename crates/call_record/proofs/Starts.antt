-- Starts as they are computed from a row.
-- Assumes nothing.
use mathlib.Core.Path.{◌≡◌, refl, sym, ◌∙◌}
use mathlib.Core.List.{List}
use Prim.Native.Nat.{ℕ, zero, suc, ◌+◌, ◌-◌, ◌^◌, ◌<◌}
use native.Mathlib.Omega.{arith}
use Rattle.grid.specs.declared.Fraction.{Fraction}
use Rattle.grid.specs.declared.Leg.{Leg}
use Rattle.grid.specs.Fraction.{gcd_by, gcd_of, lowest}
use Rattle.split.specs.SplitOf.{changeover}
use Rattle.list_row.specs.declared.Vertex.{Vertex}
use Rattle.list_row.specs.Vertices.{IsVertex, place_at, vertex_in, Held}
use Rattle.list_row.proofs.Stacks.{edge}
use Rattle.list_row.specs.Entries.{start_at}
use Rattle.call_record.specs.Starts.{RatioAt}

module _ (l : Leg) (t r : List ℕ) where
  start_at_lem : (j : ℕ) → 0 < j → start_at l t r j ≡ changeover (vertex_in l t r (j - 1)) (vertex_in l t r j)
  start_at_lem zero h = absurd (omega arith)
  start_at_lem (suc j) h = let e : suc j - 1 ≡ j = omega arith in rw e

  -- the returns of `ratio_in`
  pub ratio_none : (i : ℕ) → i ≡ 0 → RatioAt l t r i (record { num = 0; den = 1 })
  unfolding lowest gcd_of gcd_by
  ratio_none i e = rw e (record { positive = omega arith; small = omega arith; start = refl })

  module _ (k i : ℕ) (hd : Held l t r k) (h : i < k) (g : 0 < i) {u v : Vertex} (hu : IsVertex l t (place_at r (i - 1)) u) (hv : IsVertex l t (place_at r i) v) where
    pub edge_asks : (u.a < v.a) × (v.c < u.c) × (v.a < 2 ^ 31) × (u.c < 2 ^ 31)
    edge_asks =
        let s = edge l t r k i hd h g in
        (omega (arith, s.right, hu.a_is, hv.a_is), omega (arith, s.down, hu.c_is, hv.c_is), hv.small.small_a, hu.small.small_c)

    pub ratio_is : {q : Fraction} → q.num ≡ v.a - u.a → q.den ≡ (v.a - u.a) + (u.c - v.c) → RatioAt l t r i q
    ratio_is en ed =
        record {
          positive = omega (arith, edge_asks.0);
          small = omega (arith, edge_asks.2);
          start =
              (λ j. lowest (en j) (ed j))
              ∙ (λ j. lowest (hv.a_is j - hu.a_is j) ((hv.a_is j - hu.a_is j) + (hu.c_is j - hv.c_is j))) ∙ sym (start_at_lem i g);
        }
