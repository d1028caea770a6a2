-- A node read entry by entry, and an entry above the leaves by its child node.
-- Assumes nothing.
use mathlib.Core.Path.{◌≡◌, refl, sym, ap, subst, subst⁻¹, ◌∙◌}
use mathlib.Core.Bool.{Bool, true}
use mathlib.Core.List.{List, ◌++◌}
use Prim.Native.Nat.{ℕ, suc, ◌*◌, ◌-◌, ◌≤◌, ◌<◌}
use native.Mathlib.Omega.{arith}
use lib.ListN.{length}
use Rattle.limits.specs.Limits.{max_sites}
use Rattle.grid.specs.declared.Position.{Position}
use Rattle.grid.specs.declared.Site.{Site}
use Rattle.grid.specs.declared.Leg.{Leg}
use Rattle.grid.specs.Position.{OnGrid, distance}
use Rattle.grid.specs.Area.{area_distance}
use Rattle.grid.proofs.Nearest.{point_far}
use Rattle.grid.specs.Says.{If}
use Rattle.split.specs.Skip.{ShutOut}
use Rattle.list_row.specs.Vertices.{IsVertex, stack}
use Rattle.list_row.specs.Places.{site_at_byte, site_at, HasSite}
use Rattle.grid.specs.declared.Corner.{Corner}
use Rattle.list_skip.specs.declared.Edge.{Edge}
use Rattle.list_skip.specs.declared.Seen.{Seen}
use Rattle.list_skip.specs.Skipping.{EdgeShuts, Knows, Looked, IsCorner, Space, Dealt}
use Rattle.list_skip.proofs.Witnesses.{if_true}
use Rattle.list_skip.proofs.Knowing.{knows_kept}
use Rattle.tree_node.specs.declared.NodeEntry.{NodeEntry}
use Rattle.tree_node.specs.Layout.{entry_start}
use Rattle.tree_node.specs.Node.{entry_at, entries, no_entry}
use Rattle.tree_node.proofs.Reading.{get_d_entries, eight}
use Rattle.tree_rules.specs.Tree.{joined, leaves, leaves_at, Each, Child, SoundUnder}
use Rattle.permutation.specs.Perm.{Perm}
use Rattle.tree_rules.proofs.Every.{each_at}
use Rattle.tree_rules.proofs.Totals.{leaves_under}
use Rattle.permutation.proofs.Perms.{perm_sym}
use Rattle.tree_search.specs.declared.descent.Progress.{Progress}
use Rattle.tree_search.specs.Sites.{site_of, LeafPoint, sites, area_of, BoxOnGrid}
use Rattle.tree_search.specs.Searching.{entry_of, under, ComesNext, Readable, Ahead, Searched, Progressed}
use Rattle.tree_search.proofs.Orders.{perm_joined}
use Rattle.tree_search.proofs.OnGrid.{each_placed}
use Rattle.tree_search.proofs.Corners.{corner_skips}
use Rattle.tree_search.proofs.Around.{around, follows_in, follow, around_none, around_step, around_all}
use Rattle.tree_search.proofs.Searching.{searched_none, searched_leaf, searched_skip, searched_perm, searched_then, ahead_first, ahead_rest, ahead_perm}

-- entry i of node n, at height h
module _ (t : List ℕ) (h n i : ℕ) (rd : Readable t h n) (lt : i < length (entries t n)) where
  pub entry_sound : SoundUnder (entries t) h (entry_of t n i)
  entry_sound = each_at (SoundUnder (entries t) h) (entries t n) i no_entry rd.sound lt

  module _ {l : Leg} {r : List ℕ} {k : ℕ} (ah : Ahead l t r k (leaves (entries t) h (entry_of t n i))) where
    pub entry_skipped : {w : Corner} → IsCorner l (area_of (entry_of t n i)) w → ShutOut (stack l t r k) w.a w.c
        → Searched l t r k (leaves (entries t) h (entry_of t n i)) r k
    entry_skipped {w} q f =
        searched_skip (entries t) h (entry_of t n i) entry_sound ah.points ah.held (corner_skips l t r k (entry_of t n i) w q f)

-- The returns of `search_entry`: the list has sites more, and the edge that was looked at is still known.
pub step_on : {l : Leg} {t r r' : List ℕ} {k m : ℕ} {q : List NodeEntry} {e : Edge} → Ahead l t r k q → Knows e (stack l t r k) → Searched l t r k q r' m
    → Progressed l t r k q r' (record { k = m; edge = e })
step_on {r' = r'} {m = m} {q = q} ah kn s = record { searched = s; knows = knows_kept r' m (sites q) ah.held s.lists kn }

pub step_leaf : {l : Leg} {t r r' : List ℕ} {k m : ℕ} {e : Edge} (d : NodeEntry) (h : ℕ) → h ≡ 0 → Ahead l t r k (leaves (entries t) h d) → Knows e (stack l t r k)
    → Searched l t r k (leaves (entries t) 0 d) r' m → Progressed l t r k (leaves (entries t) h d) r' (record { k = m; edge = e })
step_leaf {l} {t} {r} {r'} {k} {m} d h z ah kn s =
    let f : Searched l t r k (leaves (entries t) h d) r' m = rw z s in
    step_on ah kn f

module _ (t : List ℕ) (h n i : ℕ) (rd : Readable t h n) (lt : i < length (entries t n)) {l : Leg} {r : List ℕ} {k : ℕ} (ah : Ahead l t r k (leaves (entries t) h (entry_of t n i)))
    {w : Corner} (c : IsCorner l (area_of (entry_of t n i)) w) where
  pub step_known : {e : Edge} → Knows e (stack l t r k) → (b : Bool) → b ≡ true → If b (EdgeShuts e w.a w.c)
      → Progressed l t r k (leaves (entries t) h (entry_of t n i)) r (record { k = k; edge = e })
  step_known kn b q f = step_on ah kn (entry_skipped t h n i rd lt ah c (kn.shuts w c.small (if_true b q f)))

  pub step_shut : {s : Seen} → Looked l t r k w s → s.shut ≡ true → Progressed l t r k (leaves (entries t) h (entry_of t n i)) r (record { k = k; edge = s.edge })
  step_shut {s} o q = step_on ah o.knows (entry_skipped t h n i rd lt ah c (if_true s.shut q o.shut))

byte_site : (t : List ℕ) (x : ℕ) → site_at_byte t x ≡ site_of (entry_at t x)
unfolding site_at_byte entry_at
byte_site t x = refl

-- the box of a leaf entry is a point
point_distance : (e : NodeEntry) (q : Position) → LeafPoint e → area_distance (area_of e) q ≡ distance (site_of e).position q
point_distance e q p = point_far (area_of e) q p.east p.north

-- entry i of the leaf n begins with a site record, at the place p
module _ (t : List ℕ) (n i p : ℕ) (lt : i < length (entries t n)) (at : 2 * p ≡ entry_start n i) where
  leaf_site : site_at t p ≡ site_of (entry_of t n i)
  leaf_site = byte_site t (2 * p) ∙ ap (λ (x : ℕ). site_of (entry_at t x)) at ∙ ap site_of (sym (get_d_entries t n i lt))

  leaf_point : {l : Leg} {r : List ℕ} {k : ℕ} → Ahead l t r k (leaves (entries t) 0 (entry_of t n i)) → LeafPoint (entry_of t n i)
  unfolding leaves Each
  leaf_point ah = ah.points.0

  leaf_room : {l : Leg} {r : List ℕ} {k : ℕ} → Ahead l t r k (leaves (entries t) 0 (entry_of t n i)) → k < max_sites
  unfolding leaves
  leaf_room ah = omega (arith, ah.room)

  module _ {l : Leg} {r : List ℕ} {k : ℕ} (rd : Readable t 0 n) (ah : Ahead l t r k (leaves (entries t) 0 (entry_of t n i))) where
    pub leaf_has : HasSite t p
    leaf_has =
        record {
          small = omega (arith, eight t n, rd.id);
          inside = omega (arith, eight t n, rd.id, rd.len);
          on_grid = subst⁻¹ (λ (s : Site). OnGrid s.position) leaf_site (leaf_point ah).on_grid;
        }

    leaf_far : (q : Position) → area_distance (area_of (entry_of t n i)) q ≡ distance (site_at t p).position q
    leaf_far q =
        point_distance (entry_of t n i) q (leaf_point ah) ∙ ap (λ (s : Site). distance s.position q) (sym leaf_site)

    -- the corner of its box has the site's distances
    pub leaf_vertex : {w : Corner} → IsCorner l (area_of (entry_of t n i)) w
        → IsVertex l t p (record { place = p; a = w.a; c = w.c })
    leaf_vertex k =
        record {
          place_is = refl;
          a_is = k.a_is ∙ leaf_far l.s;
          c_is = k.c_is ∙ leaf_far l.e;
          small = record { small_a = k.small.small_a; small_c = k.small.small_c };
        }

    pub leaf_space : Space l t r k p
    leaf_space full = absurd (omega (arith, leaf_room ah))

    pub leaf_searched : {r' : List ℕ} {m : ℕ} → Dealt l t r k p r' m → Searched l t r k (leaves (entries t) 0 (entry_of t n i)) r' m
    leaf_searched d = searched_leaf (entries t) (entry_of t n i) leaf_site d

-- the leaf entries under node n are those under its entries, from any one on
pub node_order : (t : List ℕ) (h n first all : ℕ) → first < length (entries t n) → all ≡ length (entries t n)
    → Perm (under t h (around (entries t n) first all)) (under t h (entries t n))
node_order t h n first all f q = rw q (perm_joined (leaves (entries t) h) (around_all (entries t n) first (omega arith)))

-- e, which is entry i of node n above the leaves, is read by its child node
module _ (t : List ℕ) (h n i : ℕ) (e : NodeEntry) (rd : Readable t h n) (lt : i < length (entries t n)) (some : 0 < h) (qe : e ≡ entry_of t n i) where
  up : suc (h - 1) ≡ h
  up = omega arith

  kid : Child (entries t) (SoundUnder (entries t) (h - 1)) e
  unfolding SoundUnder
  kid =
      subst⁻¹ (λ (d : NodeEntry). SoundUnder (entries t) (suc (h - 1)) d) qe
      (subst⁻¹ (λ (x : ℕ). SoundUnder (entries t) x (entry_of t n i)) up (entry_sound t h n i rd lt))

  pub child_readable : Readable t (h - 1) e.reference
  child_readable = record { len = rd.len; id = kid.id; sound = kid.below }

  pub child_some : 0 < length (entries t e.reference)
  child_some = omega (arith, kid.least)

  at_node : leaves_at (entries t) (h - 1) e.reference ≡ under t (h - 1) (entries t e.reference)
  unfolding leaves_at
  at_node = refl

  child_leaves : leaves (entries t) h (entry_of t n i) ≡ under t (h - 1) (entries t e.reference)
  child_leaves =
      ap (λ (x : ℕ). leaves (entries t) x (entry_of t n i)) (sym up)
      ∙ ap (leaves (entries t) (suc (h - 1))) (sym qe)
      ∙ leaves_under (entries t) (h - 1) e
      ∙ at_node

  module _ {l : Leg} {r : List ℕ} {k : ℕ} (ah : Ahead l t r k (leaves (entries t) h (entry_of t n i))) where
    pub child_ahead : Ahead l t r k (under t (h - 1) (entries t e.reference))
    child_ahead = subst (Ahead l t r k) child_leaves ah

  pub child_searched : {l : Leg} {r r' : List ℕ} {k m : ℕ} → Searched l t r k (under t (h - 1) (entries t e.reference)) r' m
      → Searched l t r k (leaves (entries t) h (entry_of t n i)) r' m
  child_searched {l} {r} {r'} {k} {m} s = subst⁻¹ (λ (q : List NodeEntry). Searched l t r k q r' m) child_leaves s

-- so many entries of node n from the ith on: none
pub node_none : {l : Leg} {t r : List ℕ} {k : ℕ} (h n i left : ℕ) → left ≡ 0 → Ahead l t r k (under t h (around (entries t n) i left))
    → Searched l t r k (under t h (around (entries t n) i left)) r k
unfolding joined
node_none {t = t} h n i left q ah =
    rw (q, around_none (entries t n) i) (searched_none ah.held)

-- entry i, then the others
module _ (t : List ℕ) (h n i j left : ℕ) (lt : i < length (entries t n)) (some : 0 < left) (le : left ≤ length (entries t n)) (f : ComesNext (length (entries t n)) i j) where
  abbrev first : List NodeEntry
  first = leaves (entries t) h (entry_of t n i)

  abbrev rest : List NodeEntry
  rest = under t h (around (entries t n) j (left - 1))

  parted : under t h (around (entries t n) i left) ≡ first ++ rest
  unfolding joined
  parted = ap (joined (leaves (entries t) h)) (around_step (entries t n) i j left lt some le f)

  module _ {l : Leg} {r : List ℕ} {k : ℕ} (ah : Ahead l t r k (under t h (around (entries t n) i left))) where
    both : Ahead l t r k (first ++ rest)
    both = subst (Ahead l t r k) parted ah

    pub node_first : Ahead l t r k (leaves (entries t) h (entry_of t n i))
    node_first = ahead_first first rest both

    pub node_rest : {r₁ : List ℕ} {m : ℕ} → Searched l t r k (leaves (entries t) h (entry_of t n i)) r₁ m → Ahead l t r₁ m (under t h (around (entries t n) j (left - 1)))
    node_rest s = ahead_rest first rest both s

  pub node_searched : {l : Leg} {r r₁ r₂ : List ℕ} {k m₁ m₂ : ℕ} → Searched l t r k (leaves (entries t) h (entry_of t n i)) r₁ m₁
      → Searched l t r₁ m₁ (under t h (around (entries t n) j (left - 1))) r₂ m₂ → Searched l t r k (under t h (around (entries t n) i left)) r₂ m₂
  node_searched {l} {r} {r₁} {r₂} {k} {m₁} {m₂} a b = subst⁻¹ (λ (q : List NodeEntry). Searched l t r k q r₂ m₂) parted (searched_then first rest a b)

-- the boxes of a node under which all is on the grid
pub node_placed : {l : Leg} {t r : List ℕ} {k h n : ℕ} → Readable t h n → Ahead l t r k (under t h (entries t n)) → Each BoxOnGrid (entries t n)
node_placed {t = t} {h = h} {n = n} rd ah = each_placed (entries t) h (entries t n) rd.sound ah.points

-- The loop over a node's entries: so many are left from the ith on, and whoever deals with them has dealt with the node.
pub record Left (l : Leg) (t r₀ : List ℕ) (k₀ h n i left : ℕ) (r : List ℕ) (k : ℕ) (e : Edge) : Type 0 where
  pub here : i < length (entries t n)
  pub few : left ≤ length (entries t n)
  pub ahead : Ahead l t r k (under t h (around (entries t n) i left))
  pub rest : (r' : List ℕ) (m : ℕ) → Searched l t r k (under t h (around (entries t n) i left)) r' m → Searched l t r₀ k₀ (under t h (entries t n)) r' m
  pub knows : Knows e (stack l t r k)

-- The loop of `search_node`: at its beginning, from one entry to the next, and at its end.
module _ {l : Leg} {t r₀ : List ℕ} {k₀ h n : ℕ} where
  pub left_all : (first all : ℕ) {e : Edge} → first < length (entries t n) → all ≡ length (entries t n) → Ahead l t r₀ k₀ (under t h (entries t n))
      → Knows e (stack l t r₀ k₀) → Left l t r₀ k₀ h n first all r₀ k₀ e
  left_all first all f q ah kn =
      let o = node_order t h n first all f q in
      record { here = f; few = omega arith; ahead = ahead_perm (perm_sym o) ah; rest = λ r' m s. searched_perm o s; knows = kn }

  module _ {i left k : ℕ} {r : List ℕ} {e : Edge} (w : Left l t r₀ k₀ h n i left r k e) (some : 0 < left) where
    pub left_first : Ahead l t r k (leaves (entries t) h (entry_of t n i))
    left_first = let (j, f) = follow (length (entries t n)) i in node_first t h n i j left w.here some w.few f w.ahead

    pub left_next : (all j : ℕ) (r₁ : List ℕ) (s : Progress) → all ≡ length (entries t n) → ComesNext all i j → Progressed l t r k (leaves (entries t) h (entry_of t n i)) r₁ s
        → Left l t r₀ k₀ h n j (left - 1) r₁ s.k s.edge
    left_next all j r₁ s q f' d =
        let f : ComesNext (length (entries t n)) i j = subst (λ (x : ℕ). ComesNext x i j) q f' in
        record {
          here = follows_in w.here f;
          few = omega (arith, w.few);
          ahead = node_rest t h n i j left w.here some w.few f w.ahead d.searched;
          rest = λ r' m z. w.rest r' m (node_searched t h n i j left w.here some w.few f d.searched z);
          knows = d.knows;
        }

  pub left_none : {i left k : ℕ} {r : List ℕ} {e : Edge} → Left l t r₀ k₀ h n i left r k e → left ≤ 0 → Searched l t r₀ k₀ (under t h (entries t n)) r k
  left_none {i} {left} {k} {r} w q = w.rest r k (node_none h n i left (omega arith) w.ahead)
