-- Sites dealt with one by one, in any order: inserted, or skipped because a corner is shut out. The hull stays that of the sites dealt with so far,
-- and so the list is their split list.
-- Assumes nothing.
use mathlib.Core.Path.{◌≡◌, refl, sym}
use mathlib.Core.Logic.{◌⊎◌, inl, inr}
use mathlib.Core.List.Memᴰ
use mathlib.Core.List.{List, [], ◌∷◌, ◌++◌, Memᴰ}
use Prim.Native.Nat.{ℕ, ◌≤◌}
use Rattle.grid.specs.declared.Site.{Site}
use Rattle.grid.specs.declared.Leg.{Leg}
use Rattle.grid.specs.declared.Area.{Area}
use Rattle.grid.specs.Area.{Inside, area_distance}
use Rattle.grid.proofs.Nearest.{no_nearer}
use Rattle.split.specs.SplitList.{IsSplitList, Numbered, SameSites}
use Rattle.split.specs.Hull.{Point, point_of, points, In, IsHull}
use Rattle.split.specs.SplitOf.{push, insert, build, entries_of, split_of}
use Rattle.split.specs.Skip.{ShutOut}
use Rattle.split.proofs.HullLaws.{own}
use Rattle.split.proofs.Insertion.{push_hull, insert_hull}
use Rattle.split.proofs.Skipping.{skip_hull}
use Rattle.split.proofs.Unique.{only_one}
use Rattle.split.proofs.Exists.{hull_is, split_is, split_only}

-- no site dealt with: no entry
pub none_dealt : (l : Leg) → IsHull (points l []) []
none_dealt l = own [] tt

pub no_site_lem : (l : Leg) → split_of l [] ≡ []
unfolding split_of build
no_site_lem l = refl

-- PUSHED: a site that is as far from S as every listed one
pub pushed_list : (l : Leg) (p : Site) (s : List Site) → Numbered (p ∷ s) → (h : List Point) → IsHull (points l s) h
    → ((v : Point) → In v h → v.a ≤ (point_of l p).a) → IsSplitList l (p ∷ s) (entries_of (push (point_of l p) h))
pushed_list l p s n h k right = hull_is l (p ∷ s) n (push (point_of l p) h) (push_hull (point_of l p) k right)

-- INSERTED, in any order
pub inserted_list : (l : Leg) (p : Site) (s : List Site) → Numbered (p ∷ s) → (h : List Point) → IsHull (points l s) h
    → IsSplitList l (p ∷ s) (entries_of (insert (point_of l p) h))
inserted_list l p s n h k = hull_is l (p ∷ s) n (insert (point_of l p) h) (insert_hull (point_of l p) k)

again : (p : Site) (s : List Site) → Memᴰ p s → SameSites s (p ∷ s)
again p s m = record { to = λ q i. Memᴰ.tail i; back = λ q i. go q (Memᴰ.cases_cons i) }
  where
    go : (q : Site) → (q ≡ p) ⊎ Memᴰ q s → Memᴰ q s
    go q (inl e) = rw e m
    go q (inr i) = i

numbered_again : (p : Site) (s : List Site) → Memᴰ p s → Numbered s → Numbered (p ∷ s)
numbered_again p s m n =
    record {
      small = λ q i. n.small q ((again p s m).back q i);
      one = λ a b i j. n.one a b ((again p s m).back a i) ((again p s m).back b j);
    }

-- INSERTED TWICE, a site changes nothing
pub inserted_twice : (l : Leg) (p : Site) (s : List Site) → Numbered s → Memᴰ p s → (h : List Point) → IsHull (points l s) h
    → entries_of (insert (point_of l p) h) ≡ entries_of h
inserted_twice l p s n m h k =
    sym
    (only_one l s (p ∷ s) n (again p s m) (entries_of h) (entries_of (insert (point_of l p) h)) (hull_is l s n h k)
    (inserted_list l p s (numbered_again p s m n) h k))

-- sites at or beyond a corner that is shut out
pub skipped : (l : Leg) (h : List Point) (a c : ℕ) → ShutOut h a c → (q : List Site)
    → ((p : Site) → Memᴰ p q → (a ≤ (point_of l p).a) × (c ≤ (point_of l p).c)) → (s : List Site) → IsHull (points l s) h → IsHull (points l (q ++ s)) h
skipped l h a c w [] far s k = k
skipped l h a c w (p ∷ q) far s k =
    let f = far p (Memᴰ.head refl) in
    skip_hull w (point_of l p) f.0 f.1 (skipped l h a c w q (λ x i. far x (Memᴰ.tail i)) s k)

-- SKIPPED: the sites of a box whose corner is shut out change nothing
pub skipped_list : (l : Leg) (b : Area) (h : List Point) → ShutOut h (area_distance b l.s) (area_distance b l.e) → (q : List Site)
    → ((p : Site) → Memᴰ p q → Inside b p.position) → (s : List Site) → Numbered (q ++ s) → IsHull (points l s) h
    → IsSplitList l (q ++ s) (entries_of h)
skipped_list l b h w q inside s n k =
    hull_is l (q ++ s) n h
    (skipped l h (area_distance b l.s) (area_distance b l.e) w q
    (λ p i. (no_nearer b p.position l.s (inside p i), no_nearer b p.position l.e (inside p i))) s k)

-- THE ORDER OF THE SITES DOES NOT MATTER
pub order_free_of : (l : Leg) (s u : List Site) → Numbered s → Numbered u → SameSites s u → split_of l s ≡ split_of l u
order_free_of l s u n m same = sym (split_only l s u n same (split_of l u) (split_is l u m))

-- WHATEVER WAY THE HULL WAS MADE, its entries are the computed list of the same sites in any order
pub hull_list : (l : Leg) (s u : List Site) → Numbered s → Numbered u → SameSites u s → (h : List Point) → IsHull (points l s) h → entries_of h ≡ split_of l u
hull_list l s u n m same h k = split_only l u s m same (entries_of h) (hull_is l s n h k)
