-- Sites searched: none, one, a skipped box, and one after the other in any order.
-- Assumes nothing.
use mathlib.Core.Path.{◌≡◌, subst}
use mathlib.Core.Logic.{⊎_elim}
use mathlib.Core.List.Memᴰ
use mathlib.Core.List.{List, [], ◌∷◌, ◌++◌, append_assoc, Memᴰ}
use Prim.Native.Nat.{ℕ, ◌≤◌}
use native.Mathlib.Omega.{arith}
use lib.ListN.{length-append}
use Rattle.words.proofs.Frame.{only_refl, only_trans}
use Rattle.grid.specs.declared.Site.{Site}
use Rattle.grid.specs.declared.Leg.{Leg}
use Rattle.grid.specs.Area.{area_distance}
use Rattle.grid.proofs.Nearest.{no_nearer}
use Rattle.split.specs.Hull.{point_of}
use Rattle.list_row.specs.Places.{site_at}
use Rattle.list_row.specs.Vertices.{Held, Lists}
use Rattle.list_row.proofs.Listing.{lists_skipped}
use Rattle.list_skip.specs.Skipping.{Dealt}
use Rattle.tree_node.specs.declared.NodeEntry.{NodeEntry}
use Rattle.tree_rules.specs.Tree.{Store, leaves, Each, SoundUnder}
use Rattle.permutation.specs.Perm.{Perm}
use Rattle.tree_rules.proofs.Every.{each_left, each_right}
use Rattle.permutation.proofs.Perms.{perm_sym, perm_length, perm_flip}
use Rattle.tree_rules.proofs.Perms.{perm_each}
use Rattle.tree_search.specs.Sites.{site_of, LeafPoint, sites, area_of}
use Rattle.tree_search.specs.Searching.{Skips, Ahead, Searched}
use Rattle.tree_search.proofs.Members.{sites_append, sites_perm, hull_same}
use Rattle.tree_search.proofs.OnGrid.{site_inside}

sites_more : (a b : List NodeEntry) (s : List Site) → Perm a b → (p : Site) → Memᴰ p (sites a ++ s) → Memᴰ p (sites b ++ s)
sites_more a b s q p m =
    ⊎_elim
    (λ (i : Memᴰ p (sites a)). Memᴰ.append_left s (sites_perm q p i))
    (λ (i : Memᴰ p s). Memᴰ.append_right (sites b) i)
    (Memᴰ.append_cases (sites a) m)

module _ {l : Leg} {t : List ℕ} where
  pub searched_none : {r : List ℕ} {k : ℕ} → Held l t r k → Searched l t r k [] r k
  unfolding sites
  searched_none hd = record { within = omega arith; held = hd; lists = λ s d. d; only = only_refl }

  -- the site of a leaf entry is dealt with
  pub searched_leaf : {r r' : List ℕ} {k p n : ℕ} (E : Store) (e : NodeEntry) → site_at t p ≡ site_of e → Dealt l t r k p r' n → Searched l t r k (leaves E 0 e) r' n
  unfolding sites leaves
  searched_leaf {r} {r'} {k} {p} {n} E e q d =
      record {
        within = d.within;
        held = d.held;
        lists = λ s i. subst (λ (x : Site). Lists l t r' n (x ∷ s)) q (d.lists s i);
        only = d.only;
      }

  -- SKIPPED: the list shuts out the box
  pub searched_skip : {r : List ℕ} {k : ℕ} (E : Store) (h : ℕ) (e : NodeEntry) → SoundUnder E h e → Each LeafPoint (leaves E h e) → Held l t r k → Skips l t r k e
      → Searched l t r k (leaves E h e) r k
  searched_skip {r} {k} E h e so q hd w =
      record {
        within = omega arith;
        held = hd;
        lists = lists_skipped l t r k (area_distance (area_of e) l.s) (area_distance (area_of e) l.e) w (sites (leaves E h e)) far;
        only = only_refl;
      }
    where
      far : (p : Site) → Memᴰ p (sites (leaves E h e)) → (area_distance (area_of e) l.s ≤ (point_of l p).a) × (area_distance (area_of e) l.e ≤ (point_of l p).c)
      far p m =
          let i = site_inside E h e so q p m in
          (no_nearer (area_of e) p.position l.s i, no_nearer (area_of e) p.position l.e i)

  -- in another order
  pub searched_perm : {r r' : List ℕ} {k n : ℕ} {a b : List NodeEntry} → Perm a b → Searched l t r k a r' n → Searched l t r k b r' n
  searched_perm {a = a} {b = b} q f =
      record {
        within = omega (arith, f.within, perm_length q);
        held = f.held;
        lists = λ s d. hull_same l (sites a ++ s) (sites b ++ s) (record { to = sites_more a b s q; back = sites_more b a s (perm_sym q) }) (f.lists s d);
        only = f.only;
      }

  -- one after the other
  pub searched_then : {r r₁ r₂ : List ℕ} {k n₁ n₂ : ℕ} (a b : List NodeEntry) → Searched l t r k a r₁ n₁ → Searched l t r₁ n₁ b r₂ n₂ → Searched l t r k (a ++ b) r₂ n₂
  searched_then {r} {r₁} {r₂} {k} {n₁} {n₂} a b f g =
      searched_perm
      (perm_flip b a)
      (record {
        within = omega (arith, f.within, g.within, length-append b a);
        held = g.held;
        lists = λ s d. rw (sites_append b a, append_assoc (sites b) (sites a) s) (g.lists (sites a ++ s) (f.lists s d));
        only = only_trans f.only g.only;
      })

  -- what is still to be read
  pub ahead_first : {r : List ℕ} {k : ℕ} (a b : List NodeEntry) → Ahead l t r k (a ++ b) → Ahead l t r k a
  ahead_first a b h =
      record {
        leg = h.leg;
        held = h.held;
        rows = h.rows;
        points = each_left LeafPoint a b h.points;
        room = omega (arith, h.room, length-append a b);
      }

  pub ahead_rest : {r r₁ : List ℕ} {k n : ℕ} (a b : List NodeEntry) → Ahead l t r k (a ++ b) → Searched l t r k a r₁ n → Ahead l t r₁ n b
  ahead_rest a b h f =
      record {
        leg = h.leg;
        held = f.held;
        rows = omega (arith, h.rows, f.only.len);
        points = each_right LeafPoint a b h.points;
        room = omega (arith, h.room, f.within, length-append a b);
      }

  pub ahead_perm : {r : List ℕ} {k : ℕ} {a b : List NodeEntry} → Perm a b → Ahead l t r k a → Ahead l t r k b
  ahead_perm q h =
      record {
        leg = h.leg;
        held = h.held;
        rows = h.rows;
        points = perm_each LeafPoint q h.points;
        room = omega (arith, h.room, perm_length q);
      }
