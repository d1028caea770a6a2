-- Under leaf entries that are points of the grid every box lies on the grid, and holds the sites under it.
-- Assumes nothing.
use mathlib.Core.Path.{subst⁻¹}
use mathlib.Core.List.{List, [], ◌∷◌, Memᴰ}
use Prim.Native.Nat.{ℕ, zero, suc, ◌≤◌, ◌<◌}
use native.Mathlib.Omega.{arith}
use lib.ListN.{length}
use Rattle.limits.specs.Limits.{grid_width}
use Rattle.grid.specs.declared.Site.{Site}
use Rattle.grid.specs.Area.{Inside}
use Rattle.tree_node.specs.declared.NodeEntry.{NodeEntry}
use Rattle.tree_node.specs.Boxes.{grow, hull, InBox}
use Rattle.tree_rules.specs.Tree.{Store, joined, leaves, Each, SoundUnder}
use Rattle.tree_rules.proofs.Every.{each_left, each_right, each_both}
use Rattle.tree_rules.proofs.Inside.{inside}
use Rattle.tree_search.specs.Sites.{site_of, LeafPoint, sites, area_of, BoxOnGrid}
use Rattle.tree_search.proofs.Members.{sites_each}

-- a smallest box reaches no further than the boxes in it
hull_low : (c : ℕ) (l : List NodeEntry) → Each BoxOnGrid l → ((hull c l).east ≤ grid_width) × ((hull c l).north ≤ grid_width)
unfolding Each hull grow
hull_low c [] p = (omega arith, omega arith)
hull_low c (e ∷ l) p = let q = hull_low c l p.1 in (omega (arith, p.0), omega (arith, p.0))

placed_hull : (c : ℕ) (l : List NodeEntry) → 0 < length l → Each BoxOnGrid l → BoxOnGrid (hull c l)
unfolding Each hull grow
placed_hull c [] lt p = absurd (omega arith)
placed_hull c (e ∷ l) lt p =
    let q = hull_low c l p.1 in
    let b = p.0 in
    record { across = omega arith; up = omega arith; east = omega arith; north = omega arith }

-- what follows from each part follows for the whole
each_part : (P Q R : NodeEntry → Type 0) (f : NodeEntry → List NodeEntry) → ((e : NodeEntry) → P e → Each Q (f e) → R e) → (l : List NodeEntry) → Each P l → Each Q (joined f l) → Each R l
unfolding Each joined
each_part P Q R f h [] p q = tt
each_part P Q R f h (e ∷ l) p q =
    (h e p.0 (each_left Q (f e) (joined f l) q), each_part P Q R f h l p.1 (each_right Q (f e) (joined f l) q))

pub placed : (E : Store) (h : ℕ) (e : NodeEntry) → SoundUnder E h e → Each LeafPoint (leaves E h e) → BoxOnGrid e
unfolding SoundUnder leaves Each
placed E zero e s p =
    let q = p.0 in
    record { across = omega arith; up = omega arith; east = omega arith; north = omega arith }
placed E (suc h) e s p =
    let l : List NodeEntry = E e.reference in
    subst⁻¹
    BoxOnGrid
    s.box
    (placed_hull e.reference l (omega (arith, s.least)) (each_part (SoundUnder E h) LeafPoint BoxOnGrid (leaves E h) (placed E h) l s.below p))

-- THE BOXES OF ENTRIES LIE ON THE GRID
pub each_placed : (E : Store) (h : ℕ) (l : List NodeEntry) → Each (SoundUnder E h) l → Each LeafPoint (joined (leaves E h) l) → Each BoxOnGrid l
each_placed E h l = each_part (SoundUnder E h) LeafPoint BoxOnGrid (leaves E h) (placed E h) l

within_box : (e p : NodeEntry) → InBox p e → LeafPoint p → Inside (area_of e) (site_of p).position
within_box e p i q = record { west = omega arith; east = omega arith; south = omega arith; north = omega arith }

-- EVERY SITE UNDER AN ENTRY LIES IN ITS BOX
pub site_inside : (E : Store) (h : ℕ) (e : NodeEntry) → SoundUnder E h e → Each LeafPoint (leaves E h e) → (p : Site) → Memᴰ p (sites (leaves E h e)) → Inside (area_of e) p.position
site_inside E h e s q =
    sites_each
    (λ p. Inside (area_of e) p.position)
    (leaves E h e)
    (each_both (λ p. InBox p e) LeafPoint (λ p. Inside (area_of e) (site_of p).position) (within_box e) (leaves E h e) (inside E h e s) q)
