-- The smallest box of a node under which an entry was added: the box that it had, grown by the entry.
-- It goes by the leaf entries, of which an addition tells every total. A box holds those of a list where nothing stands out of it, and how far they stand out is a total.
-- Assumes nothing.
use mathlib.Core.Path.{◌≡◌, refl, sym, subst, ◌∙◌}
use mathlib.Core.List.{List, [], ◌∷◌}
use Prim.Native.Nat.{ℕ, zero, suc, ◌+◌, ◌-◌, ◌≤◌}
use native.Mathlib.Omega.{arith}
use Rattle.tree_node.specs.declared.NodeEntry.{NodeEntry}
use Rattle.tree_node.specs.Boxes.{grow, hull, InBox}
use Rattle.tree_node.specs.Tally.{total}
use Rattle.tree_node.proofs.Counting.{total_append}
use Rattle.tree_node.proofs.Hulls.{hull_reference, in_refl, in_trans, in_grow, in_grown}
use Rattle.tree_node.proofs.Telling.{entry_eq}
use Rattle.tree_rules.specs.Tree.{Store, joined, leaves, Each, SoundUnder}

-- how far p's box stands out of q's
unfoldable out : NodeEntry → NodeEntry → ℕ
out q p = (q.west - p.west) + (q.south - p.south) + (p.east - q.east) + (p.north - q.north)

in_out : (p q : NodeEntry) → InBox p q → out q p ≡ 0
unfolding out
in_out p q i = omega arith

out_in : (p q : NodeEntry) → out q p ≡ 0 → InBox p q
unfolding out
out_in p q z = omega arith

-- q's lower sides are no higher than those of the box of nothing
pub record Capped (q : NodeEntry) : Type 0 where
  pub west : q.west ≤ 65535
  pub south : q.south ≤ 65535

hull_capped : (c : ℕ) (l : List NodeEntry) → Capped (hull c l)
unfolding hull grow
hull_capped c [] = omega arith
hull_capped c (p ∷ l) = omega (arith, hull_capped c l)

hull_spare : (c : ℕ) (l : List NodeEntry) → (hull c l).spare ≡ 0
unfolding hull grow
hull_spare c [] = refl
hull_spare c (p ∷ l) = hull_spare c l

-- q holds the smallest box of a list where nothing of the list stands out of q
none_out : (c : ℕ) (q : NodeEntry) (l : List NodeEntry) → InBox (hull c l) q → total (out q) l ≡ 0
unfolding hull total
none_out c q [] i = refl
none_out c q (p ∷ l) i =
    let head = in_out p q (in_trans (in_grow p (hull c l)) i) in
    let tail = none_out c q l (in_trans (in_grown p (hull c l)) i) in
    omega arith

all_in : (c : ℕ) (q : NodeEntry) (l : List NodeEntry) → Capped q → total (out q) l ≡ 0 → InBox (hull c l) q
unfolding hull grow total out
all_in c q [] a z = omega arith
all_in c q (p ∷ l) a z = omega (arith, all_in c q l a (omega arith))

-- nothing of a list stands out of q where none of its leaf entries does
module _ (E : Store) (q : NodeEntry) (a : Capped q) where
  joined_down : (P : NodeEntry → Type 0) (f : NodeEntry → List NodeEntry) (l : List NodeEntry) → ((e : NodeEntry) → P e → out q e ≡ 0 → total (out q) (f e) ≡ 0)
      → Each P l → total (out q) l ≡ 0 → total (out q) (joined f l) ≡ 0
  unfolding total joined Each
  joined_down P f [] h s z = refl
  joined_down P f (e ∷ l) h s z =
      omega (arith, total_append (out q) (f e) (joined f l), h e s.0 (omega arith), joined_down P f l h s.1 (omega arith))

  joined_up : (P : NodeEntry → Type 0) (f : NodeEntry → List NodeEntry) (l : List NodeEntry) → ((e : NodeEntry) → P e → total (out q) (f e) ≡ 0 → out q e ≡ 0)
      → Each P l → total (out q) (joined f l) ≡ 0 → total (out q) l ≡ 0
  unfolding total joined Each
  joined_up P f [] h s z = refl
  joined_up P f (e ∷ l) h s z =
      let t = total_append (out q) (f e) (joined f l) in
      omega (arith, h e s.0 (omega arith), joined_up P f l h s.1 (omega arith))

  leaves_down : (h : ℕ) (e : NodeEntry) → SoundUnder E h e → out q e ≡ 0 → total (out q) (leaves E h e) ≡ 0
  unfolding SoundUnder leaves total
  leaves_down zero e s z = omega arith
  leaves_down (suc h) e s z =
      joined_down (SoundUnder E h) (leaves E h) (E e.reference) (leaves_down h) s.below
      (none_out e.reference q (E e.reference) (subst (λ (x : NodeEntry). InBox x q) s.box (out_in e q z)))

  leaves_up : (h : ℕ) (e : NodeEntry) → SoundUnder E h e → total (out q) (leaves E h e) ≡ 0 → out q e ≡ 0
  unfolding SoundUnder leaves total
  leaves_up zero e s z = omega arith
  leaves_up (suc h) e s z =
      let i : InBox (hull e.reference (E e.reference)) q =
      all_in e.reference q (E e.reference) a (joined_up (SoundUnder E h) (leaves E h) (E e.reference) (leaves_up h) s.below z) in
      in_out e q (subst (λ (x : NodeEntry). InBox x q) (sym s.box) i)

-- the entries l became l', and the leaf entries under them are those there were and e
module _ (E E' : Store) (h c : ℕ) (e : NodeEntry) (l l' : List NodeEntry) (s : Each (SoundUnder E h) l) (s' : Each (SoundUnder E' h) l')
    (leaf : (w : NodeEntry → ℕ) → total w (joined (leaves E' h) l') ≡ w e + total w (joined (leaves E h) l)) where
  grown_capped : Capped (grow e (hull c l))
  unfolding grow
  grown_capped = omega (arith, hull_capped c l)

  hull_in_grown : InBox (hull c l') (grow e (hull c l))
  hull_in_grown =
      let G : NodeEntry = grow e (hull c l) in
      let old = joined_down E G grown_capped (SoundUnder E h) (leaves E h) l (leaves_down E G grown_capped h) s (none_out c G l (in_grown e (hull c l))) in
      let new = in_out e G (in_grow e (hull c l)) in
      all_in c G l' grown_capped
      (joined_up E' G grown_capped (SoundUnder E' h) (leaves E' h) l' (leaves_up E' G grown_capped h) s' (omega (arith, leaf (out G))))

  grown_in_hull : InBox (grow e (hull c l)) (hull c l')
  unfolding grow
  grown_in_hull =
      let H : NodeEntry = hull c l' in
      let cap : Capped H = hull_capped c l' in
      let all = joined_down E' H cap (SoundUnder E' h) (leaves E' h) l' (leaves_down E' H cap h) s' (none_out c H l' (in_refl H)) in
      let new : InBox e H = out_in e H (omega (arith, leaf (out H))) in
      let old : InBox (hull c l) H =
      all_in c H l cap (joined_up E H cap (SoundUnder E h) (leaves E h) l (leaves_up E H cap h) s (omega (arith, leaf (out H)))) in
      omega arith

  pub hull_grown : grow e (hull c l) ≡ hull c l'
  unfolding grow
  hull_grown =
      let i = hull_in_grown in
      let j = grown_in_hull in
      entry_eq (grow e (hull c l)) (hull c l')
      (hull_reference c l ∙ sym (hull_reference c l'))
      (omega arith)
      (omega arith)
      (omega arith)
      (omega arith)
      (hull_spare c l ∙ sym (hull_spare c l'))
