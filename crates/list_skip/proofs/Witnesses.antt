-- The witnesses of a skip, in hand.
-- Assumes nothing.
use mathlib.Core.Path.{◌≡◌, refl, subst⁻¹}
use mathlib.Core.Logic.{inl, inr}
use mathlib.Core.Bool.{Bool, true, false}
use mathlib.Core.List.{List}
use Rattle.std.specs.Prelude.{Option, None, Some}
use Prim.Native.Nat.{ℕ, ◌+◌, ◌*◌, ◌^◌, ◌≤◌, ◌<◌}
use native.Mathlib.Nat.{mul-le-mul_left}
use native.Mathlib.Omega.{arith}
use Rattle.grid.specs.declared.Corner.{Corner}
use Rattle.grid.specs.declared.Leg.{Leg}
use Rattle.grid.specs.Says.{If}
use Rattle.split.specs.Skip.{Shut, ShutOut}
use Rattle.split.proofs.Skipping.{witness_shuts}
use Rattle.list_row.specs.declared.Vertex.{Vertex}
use Rattle.list_row.specs.declared.Gap.{Gap}
use Rattle.list_row.specs.Vertices.{vertex_in, stack, Cut}
use Rattle.list_row.specs.Gaps.{Stands, About, Cuts}
use Rattle.list_row.proofs.Stacks.{in_stack}
use Rattle.list_skip.specs.declared.Edge.{Edge}
use Rattle.list_skip.specs.declared.Seen.{Seen}
use Rattle.list_skip.specs.Skipping.{SmallCorner, EdgeShuts, Knows, KnowsNothing, edge_of, SeenAbout, SmallGap, SeenNothing, SeenAt, Looked}

pub if_true : {P : Type 0} (b : Bool) → b ≡ true → If b P → P
if_true b e h = rw e at h

-- what a true answer means, the answer means
pub if_so : {P : Type 0} (b : Bool) → (b ≡ true → P) → If b P
if_so true f = f refl
if_so false f = tt

-- TWO VERTICES OF THE ROW KNOW WHAT THE LIST SHUTS OUT
module _ {l : Leg} {t r : List ℕ} {n : ℕ} where
  witness : {u v : Vertex} {a c : ℕ} → Stands l t r n u → Stands l t r n v
      → Shut (record { a = u.a; c = u.c }) (record { a = v.a; c = v.c }) a c → ShutOut (stack l t r n) a c
  witness su sv f =
      witness_shuts record {
        u = vertex_in l t r su.at;
        v = vertex_in l t r sv.at;
        has_u = in_stack l t r n su.at su.within;
        has_v = in_stack l t r n sv.at sv.within;
        shut = rw (su.is.a_is, su.is.c_is, sv.is.a_is, sv.is.c_is) at f;
      }

  pub edge_knows : {u v : Vertex} → Stands l t r n u → Stands l t r n v → Knows (edge_of u v) (stack l t r n)
  edge_knows {u} {v} su sv =
      record {
        small =
            record {
              left = record { small_a = su.is.small.small_a; small_c = su.is.small.small_c };
              right = record { small_a = sv.is.small.small_a; small_c = sv.is.small.small_c };
            };
        shuts = λ k h f. by f;
      }
    where
      by : {a c : ℕ} → EdgeShuts (edge_of u v) a c → ShutOut (stack l t r n) a c
      by (inl f) = witness su su f
      by (inr f) = witness su sv f

-- what `tell` asks
pub gap_small : (l : Leg) (t r : List ℕ) (n a : ℕ) (o : Option Gap) → Cuts l t r n a o → SmallGap o
gap_small l t r n a (Some g) b = (b.left.is.small, b.right.is.small)
gap_small l t r n a None z = tt

module _ {l : Leg} {t r : List ℕ} {n : ℕ} {k : Corner} {s : Seen} where
  seen_gap : {g : Gap} → SmallCorner k → About l t r n k.a g → SeenAbout g k s → Looked l t r n k s
  seen_gap {g} h b w =
      let kn : Knows s.edge (stack l t r n) = subst⁻¹ (λ (e : Edge). Knows e (stack l t r n)) w.edge (edge_knows b.left b.right) in
      record { shut = told s.shut w.shut kn; cut = subst⁻¹ (λ (x : ℕ). Cut l t r n k.a x) w.cut b.cut; knows = kn }
    where
      told : (q : Bool) → If q (EdgeShuts s.edge k.a k.c) → Knows s.edge (stack l t r n) → If q (ShutOut (stack l t r n) k.a k.c)
      told true f kn = kn.shuts k h f
      told false f kn = tt

  seen_none : n ≡ 0 → SeenNothing s → Looked l t r n k s
  seen_none z w =
      record {
        shut = subst⁻¹ (λ (q : Bool). If q (ShutOut (stack l t r n) k.a k.c)) w.shut tt;
        cut = subst⁻¹ (λ (x : ℕ). Cut l t r n k.a x) w.cut (record { within = omega arith; left = λ h. absurd (omega arith); right = λ i h j. absurd (omega arith) });
        knows = w.edge (stack l t r n);
      }

  -- the return of `covers`
  pub looked : (o : Option Gap) → SmallCorner k → Cuts l t r n k.a o → SeenAt o k s → Looked l t r n k s
  looked (Some g) h b w = seen_gap h b w
  looked None h z w = seen_none z w

-- the returns of `shuts`
pub by_left : (e : Edge) (a c : ℕ) (b : Bool) → b ≡ true → If b (Shut e.left e.left a c) → EdgeShuts e a c
by_left e a c b q f = inl (if_true b q f)

pub by_edge : (e : Edge) (a c : ℕ) (b : Bool) → If b (Shut e.left e.right a c) → If b (EdgeShuts e a c)
by_edge e a c true f = inr f
by_edge e a c false f = tt

-- nothing lies beyond the farthest point
beyond : (x a c m n : ℕ) → a ≤ x → c ≤ x → m * x + n * x < m * a + n * c → ⊥
beyond x a c m n h g f = omega (arith, mul-le-mul_left m h, mul-le-mul_left n g)

pub knows_nothing : (x : ℕ) → x + 1 ≡ 2 ^ 31 → KnowsNothing (record { left = record { a = x; c = x }; right = record { a = x; c = x } })
knows_nothing x q l =
    record {
      small =
          record {
            left = record { small_a = omega arith; small_c = omega arith };
            right = record { small_a = omega arith; small_c = omega arith };
          };
      shuts = λ k h f. absurd (none k h f);
    }
  where
    none : (k : Corner) → SmallCorner k → EdgeShuts (record { left = record { a = x; c = x }; right = record { a = x; c = x } }) k.a k.c → ⊥
    none k h (inl f) = beyond x k.a k.c f.m f.n (omega (arith, h.small_a)) (omega (arith, h.small_c)) f.under_u
    none k h (inr f) = beyond x k.a k.c f.m f.n (omega (arith, h.small_a)) (omega (arith, h.small_c)) f.under_u
