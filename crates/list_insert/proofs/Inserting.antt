-- The row after an insertion is the hull of one vertex more; where x is hidden or not below the chord, the old row is.
-- Assumes nothing.
use mathlib.Core.Path.{◌≡◌, refl, sym, subst}
use mathlib.Core.Bool.{Bool, true, false}
use Rattle.std.specs.Prelude.{None}
use mathlib.Core.Logic.{◌⊎◌, inl, inr}
use mathlib.Core.List.Memᴰ
use mathlib.Core.List.{List, ◌∷◌}
use Prim.Native.Nat.{ℕ, zero, suc, ◌+◌, ◌-◌, ◌≤◌, ◌<◌}
use native.Mathlib.Decide.{dec_lt}
use native.Mathlib.Omega.{arith}
use Rattle.words.proofs.Frame.{only_refl}
use Rattle.grid.specs.declared.Leg.{Leg}
use Rattle.grid.specs.Says.{Says}
use Rattle.split.specs.Hull.{Point, RightBelow, Bends, Beats, In, Under, Convex, IsHull}
use Rattle.split.specs.SplitOf.{push}
use Rattle.split.proofs.HullLaws.{under_step, grow, own, covers_one, covers_cons, self}
use Rattle.split.proofs.Points.{beats_refl}
use Rattle.list_row.specs.declared.Vertex.{Vertex}
use Rattle.list_row.specs.Places.{HasSite}
use Rattle.list_row.specs.Vertices.{point_at, IsVertex, place_at, vertex_in, stack, Held, Cut}
use Rattle.list_row.proofs.Stacks.{stack_two, stack_top, convex_below, edge, in_stack, stack_agree}
use Rattle.list_insert.specs.Insertion.{RowRoom, Placed, Stays, EitherBeats, Tangent, Between, BelowChord, Spliced, Inserted}
use Rattle.list_insert.proofs.Pushing.{pushed_stack}
use Rattle.list_insert.proofs.Beating.{no_turn}

-- what stands in a row stands at an index
stack_at : (l : Leg) (t r : List ℕ) (k : ℕ) (v : Point) → In v (stack l t r k) → (i : ℕ) × (i < k) × (v ≡ vertex_in l t r i)
stack_at l t r zero v m = elim m [ ]
stack_at l t r (suc k) v (Memᴰ.head e) = (k, omega arith, e)
stack_at l t r (suc k) v (Memᴰ.tail m) = let (i, h, e) = stack_at l t r k v m in (i, omega arith, e)

stack_sub : (l : Leg) (t r : List ℕ) (j k : ℕ) → j ≤ k → (v : Point) → In v (stack l t r j) → In v (stack l t r k)
stack_sub l t r j k h v m = let (i, g, e) = stack_at l t r j v m in subst (λ (u : Point). In u (stack l t r k)) (sym e) (in_stack l t r k i (omega arith))

-- x is not listed: at each weight a vertex of the old row beats it.
unlisted : {l : Leg} {t r : List ℕ} {k : ℕ} {x : Point} → Held l t r k
    → ((m w : ℕ) → 0 < m → 0 < w → (v : Point) × In v (stack l t r k) × Beats m w v x) → Inserted l t r k x r k
unlisted {l} {t} {r} {k} hd f =
    record {
      within = omega arith;
      held = hd;
      hull = grow (λ v m. Memᴰ.tail m) (covers_cons (covers_one f) (self λ v m. m)) (own (stack l t r k) hd.convex);
      only = only_refl;
    }

-- The row r' after `splice`.
module _ (l : Leg) (t : List ℕ) {r r' : List ℕ} {k j i p : ℕ} (le : j ≤ i) (upto : i ≤ k) (sp : Spliced r k j i p r') where
  each : (P : ℕ → Type 0) → ((m : ℕ) → m < k → P (place_at r m)) → P p → (m : ℕ) → m < j + 1 + (k - i) → P (place_at r' m)
  each P f g m h = go (dec_lt m j) (dec_lt j m)
    where
      go : Dec (m < j) → Dec (j < m) → P (place_at r' m)
      go (yes a) b = subst P (sym (sp.left m a)) (f m (omega arith))
      go (no a) (no b) =
          let e : j ≡ m = omega arith in
          subst (λ (c : ℕ). P (place_at r' c)) e (subst P (sym sp.here) g)
      go (no a) (yes b) =
          let e : j + 1 + (m - (j + 1)) ≡ m = omega arith in
          let d : i + (m - (j + 1)) < k = omega arith in
          subst (λ (c : ℕ). P (place_at r' c)) e (subst P (sym (sp.right (m - (j + 1)) d)) (f (i + (m - (j + 1))) d))

  has_x : In (point_at l t p) (stack l t r' (j + 1 + (k - i)))
  has_x = subst (λ (q : ℕ). In (point_at l t q) (stack l t r' (j + 1 + (k - i)))) sp.here (in_stack l t r' (j + 1 + (k - i)) j (omega arith))

  has_left : (m : ℕ) → m < j → In (vertex_in l t r m) (stack l t r' (j + 1 + (k - i)))
  has_left m h =
      subst (λ (q : ℕ). In (point_at l t q) (stack l t r' (j + 1 + (k - i)))) (sp.left m h) (in_stack l t r' (j + 1 + (k - i)) m (omega arith))

  has_right : (m : ℕ) → i ≤ m → m < k → In (vertex_in l t r m) (stack l t r' (j + 1 + (k - i)))
  has_right m h g =
      let e : i + (m - i) ≡ m = omega arith in
      rw e at
      (subst (λ (q : ℕ). In (point_at l t q) (stack l t r' (j + 1 + (k - i)))) (sp.right (m - i) (omega arith))
      (in_stack l t r' (j + 1 + (k - i)) (j + 1 + (m - i)) (omega arith)))

  none_yet : stack l t r' (j + 1 + 0) ≡ point_at l t p ∷ stack l t r j
  none_yet =
      let e : j + 1 + 0 ≡ suc j = omega arith in
      rw (e, sp.here, stack_agree l t r r' j sp.left)

  one_more : (d : ℕ) → i + d < k → stack l t r' (j + 1 + suc d) ≡ vertex_in l t r (i + d) ∷ stack l t r' (j + 1 + d)
  one_more d h =
      let e : j + 1 + suc d ≡ suc (j + 1 + d) = omega arith in
      rw (e, sp.right d h)

  -- Convex: the bends at x and on either side of it are tested, all others are as before.
  module _ (hd : Held l t r k) (cv : Convex (point_at l t p ∷ stack l t r j)) (st : i < k → Stays l t r k (point_at l t p) i)
      (bc : BelowChord l t r k j i (point_at l t p)) where
    on_x : (j : ℕ) {u : Point} → RightBelow (point_at l t p) u → (0 < j → Bends (vertex_in l t r (j - 1)) (point_at l t p) u) → Under u (point_at l t p ∷ stack l t r j)
    on_x zero s f = s
    on_x (suc j) s f = let e : suc j - 1 ≡ j = omega arith in (s, rw e at (f (omega arith)))

    under : (d : ℕ) → i + d < k → Under (vertex_in l t r (i + d)) (stack l t r' (j + 1 + d))
    under zero h =
        let e : i + 0 ≡ i = omega arith in
        rw (none_yet, e) (on_x j (st (omega arith)).step (λ g. bc g (omega arith)))
    under (suc zero) h =
        let e : i + 0 ≡ i = omega arith in
        let g : i + 1 - 1 ≡ i = omega arith in
        rw (one_more zero (omega arith), none_yet, e)
        (rw g at (edge l t r k (i + 1) hd h (omega arith)), (st (omega arith)).turn h)
    under (suc (suc d)) h =
        let e : i + suc (suc d) - 1 ≡ i + suc d = omega arith in
        let f : i + suc (suc d) - 2 ≡ i + d = omega arith in
        rw (one_more (suc d) (omega arith), one_more d (omega arith))
        (rw (stack_two l t r (i + suc (suc d)) (omega arith), e, f) at (convex_below l t r k (suc (i + suc (suc d))) h hd.convex).0)

    convex_upto : (d : ℕ) → i + d ≤ k → Convex (stack l t r' (j + 1 + d))
    convex_upto zero h = rw none_yet cv
    convex_upto (suc d) h = rw (one_more d (omega arith)) (under d (omega arith), convex_upto d (omega arith))

-- Both sides: the first n are not right of x.
module _ {l : Leg} {t r : List ℕ} {k n p : ℕ} {x : Vertex} (hd : Held l t r k) (ct : Cut l t r k x.a n) (hx : IsVertex l t p x) where
  left : IsHull (point_at l t p ∷ stack l t r n) (push (point_at l t p) (stack l t r n))
  left = pushed_stack l t r n (point_at l t p) (convex_below l t r k n ct.within hd.convex) (λ h. omega (arith, ct.left h, hx.a_is))

  -- hidden by a vertex on the left
  pub insert_hidden : Placed l t r n (point_at l t p) None → Inserted l t r k (point_at l t p) r k
  insert_hidden (j, le, pl) =
      unlisted hd (λ m w pm pw.
      let (v, iv, bv) = (rw pl at left).covers m w pm pw (point_at l t p) (Memᴰ.head refl) in
      (v, stack_sub l t r j k (omega (arith, ct.within)) v iv, bv))

  module _ {j : ℕ} (le : j ≤ n) (pl : push (point_at l t p) (stack l t r n) ≡ point_at l t p ∷ stack l t r j) {i : ℕ}
      (tg : Tangent l t r k n (point_at l t p) i) where
    left_kept : IsHull (point_at l t p ∷ stack l t r n) (point_at l t p ∷ stack l t r j)
    left_kept = rw pl at left

    pub insert_between : (j ≤ k) × (i ≤ k) × Between l t r k j i (point_at l t p)
    insert_between = (
      omega (arith, ct.within),
      tg.over.upto,
      record {
        left = λ h. under_step (stack l t r (j - 1)) (rw (stack_top l t r j h) at left_kept.convex.0);
        right = λ h. (tg.stays h).step;
      },
    )

    -- at or above the chord
    pub insert_above : (f : Bool) → f ≡ false → Says f (BelowChord l t r k j i (point_at l t p)) → Inserted l t r k (point_at l t p) r k
    insert_above f ef s = unlisted hd (λ m w pm pw. go (rw ef at s) m w (dec_lt 0 j) (dec_lt i k))
      where
        go : ¬ BelowChord l t r k j i (point_at l t p) → (m w : ℕ) → Dec (0 < j) → Dec (i < k) → (v : Point) × In v (stack l t r k) × Beats m w v (point_at l t p)
        go above m w (no a) d = absurd (above (λ h g. absurd (a h)))
        go above m w (yes a) (no d) = absurd (above (λ h g. absurd (d g)))
        go above m w (yes a) (yes d) = by (no_turn (insert_between.2.left a) (insert_between.2.right d) (λ t. above (λ h g. t)) m w)
          where
            by : Beats m w (vertex_in l t r (j - 1)) (point_at l t p) ⊎ Beats m w (vertex_in l t r i) (point_at l t p)
                → (v : Point) × In v (stack l t r k) × Beats m w v (point_at l t p)
            by (inl y) = (vertex_in l t r (j - 1), in_stack l t r k (j - 1) (omega (arith, ct.within)), y)
            by (inr y) = (vertex_in l t r i, in_stack l t r k i d, y)

    -- listed between its neighbours
    pub insert_listed : HasSite t p → RowRoom k r → (f : Bool) → f ≡ true → Says f (BelowChord l t r k j i (point_at l t p)) → {r' : List ℕ} {s : ℕ}
        → s ≡ j + 1 + (k - i) → Spliced r k j i p r' → Inserted l t r k (point_at l t p) r' s
    insert_listed g room f ef s {r'} es sp =
        rw es
        record {
          within = omega (arith, ji, ik);
          held =
              record {
                inside = omega (arith, ji, ik, room.few, room.row, sp.only.len);
                few = omega (arith, ji, ik, room.few);
                sites = each l t ji ik sp (HasSite t) hd.sites g;
                convex = cv;
              };
          hull = record { convex = cv; sub = λ v m. from_old v (stack_at l t r' (j + 1 + (k - i)) v m); covers = λ m w pm pw q y. covered m w pm pw q y };
          only = sp.only;
        }
      where
        ji : j ≤ i
        ji = omega (arith, tg.over.from)

        ik : i ≤ k
        ik = tg.over.upto

        cv : Convex (stack l t r' (j + 1 + (k - i)))
        cv = convex_upto l t ji ik sp hd left_kept.convex tg.stays (rw ef at s) (k - i) (omega (arith, ik))

        from_old : (v : Point) → (m : ℕ) × (m < j + 1 + (k - i)) × (v ≡ vertex_in l t r' m) → In v (point_at l t p ∷ stack l t r k)
        from_old v (m, h, e) =
            subst (λ (u : Point). In u (point_at l t p ∷ stack l t r k)) (sym e)
            (each l t ji ik sp (λ (q : ℕ). In (point_at l t q) (point_at l t p ∷ stack l t r k)) (λ c d. Memᴰ.tail (in_stack l t r k c d)) (Memᴰ.head refl) m h)

        to_new : (v : Point) → In v (point_at l t p ∷ stack l t r j) → In v (stack l t r' (j + 1 + (k - i)))
        to_new v (Memᴰ.head e) = subst (λ (u : Point). In u (stack l t r' (j + 1 + (k - i)))) (sym e) (has_x l t ji ik sp)
        to_new v (Memᴰ.tail y) =
            let (c, h, e) = stack_at l t r j v y in
            subst (λ (u : Point). In u (stack l t r' (j + 1 + (k - i)))) (sym e) (has_left l t ji ik sp c h)

        beaten : (m w : ℕ) → 0 < m → 0 < w → (h : ℕ) → h < k → Dec (h < n) → Dec (h < i)
            → (v : Point) × In v (stack l t r' (j + 1 + (k - i))) × Beats m w v (vertex_in l t r h)
        beaten m w pm pw h hk (yes a) d =
            let (v, iv, bv) = left_kept.covers m w pm pw (vertex_in l t r h) (Memᴰ.tail (in_stack l t r n h a)) in
            (v, to_new v iv, bv)
        beaten m w pm pw h hk (no a) (yes d) = by (tg.over.beaten h (omega arith) d m w pm pw)
          where
            by : EitherBeats l t r k (point_at l t p) i m w (vertex_in l t r h) → (v : Point) × In v (stack l t r' (j + 1 + (k - i))) × Beats m w v (vertex_in l t r h)
            by (inl y) = (point_at l t p, has_x l t ji ik sp, y)
            by (inr y) = (vertex_in l t r i, has_right l t ji ik sp i (omega arith) y.0, y.1)
        beaten m w pm pw h hk (no a) (no d) = (vertex_in l t r h, has_right l t ji ik sp h (omega arith) hk, beats_refl (vertex_in l t r h))

        covered : (m w : ℕ) → 0 < m → 0 < w → (q : Point) → In q (point_at l t p ∷ stack l t r k)
            → (v : Point) × In v (stack l t r' (j + 1 + (k - i))) × Beats m w v q
        covered m w pm pw q (Memᴰ.head e) = rw e (point_at l t p, has_x l t ji ik sp, beats_refl (point_at l t p))
        covered m w pm pw q (Memᴰ.tail y) =
            let (h, hk, e) = stack_at l t r k q y in
            rw e (beaten m w pm pw h hk (dec_lt h n) (dec_lt h i))
