-- The list before C-11 of document 02 names the lowest number of the sites that tie along the whole leg.
-- Assumes nothing.
use mathlib.Core.Path.{◌≡◌, refl, sym, ap, subst, subst⁻¹, ◌∙◌}
use mathlib.Core.List.{List, [], ◌∷◌, append-nil, Memᴰ}
use Prim.Native.Nat.{ℕ, ◌≤◌}
use Rattle.grid.specs.declared.Site.{Site}
use Rattle.grid.specs.declared.Leg.{Leg}
use Rattle.split.specs.SplitList.{Entry}
use Rattle.split.specs.Ties.{TieAlong}
use Rattle.split.specs.Hull.{Point, In, IsHull}
use Rattle.split.specs.SplitOf.{build, entries_after, entries_along, onto}
use Rattle.split.specs.ByNumber.{number_point, number_points, split_by_number, LowestOfTies}
use Rattle.split.proofs.Best.{onto_keeps}
use Rattle.split.proofs.Insertion.{build_hull}
use Rattle.split.proofs.Exists.{vertex_first, onto_onto}
use Rattle.split.proofs.Ties.{tie_ends}

module _ (l : Leg) where
  of_number : (u : List Site) (v : Point) → In v (number_points l u) → v ≡ number_point l v.site
  of_number [] v x' = elim x' [ ]
  of_number (p ∷ u) v (Memᴰ.head e) = e ∙ ap (number_point l) (sym (ap (λ (x : Point). x.site) e))
  of_number (p ∷ u) v (Memᴰ.tail i) = of_number u v i

  to_number : (u : List Site) (p : Site) → Memᴰ p u → In (number_point l p) (number_points l u)
  to_number [] p x' = elim x' [ ]
  to_number (q ∷ u) p (Memᴰ.head e) = Memᴰ.head (ap (number_point l) e)
  to_number (q ∷ u) p (Memᴰ.tail i) = Memᴰ.tail (to_number u p i)

module _ (l : Leg) (s : List Site) where
  vertex_lowest : (r : List Point) (v : Point) (k : List Point) → IsHull (number_points l s) (onto r (v ∷ k))
      → (q : Site) → Memᴰ q s → TieAlong l v.site q → v.site.number ≤ q.number
  vertex_lowest r v k h q i tie =
      let e = of_number l s v (h.sub v (onto_keeps r (v ∷ k) v (Memᴰ.head refl))) in
      let t = tie_ends l v.site q tie in
      let o = vertex_first r v k h (number_point l q) (to_number l s q i) (ap (λ (x : Point). x.a) e ∙ t.0) (ap (λ (x : Point). x.c) e ∙ t.1) in
      subst (λ (x : ℕ). x ≤ q.number) (ap (λ (x : Point). x.order) e) o

  after_lowest : (r : List Point) (v : Point) (k : List Point) → IsHull (number_points l s) (onto r (v ∷ k)) → LowestOfTies l s (entries_after v r)
  after_lowest [] v k h e x'' = elim x'' [ ]
  after_lowest (w ∷ r) v k h e (Memᴰ.head i) =
      subst⁻¹ (λ (g : Entry). (q : Site) → Memᴰ q s → TieAlong l g.site q → g.site.number ≤ q.number) i (vertex_lowest r w (v ∷ k) h)
  after_lowest (w ∷ r) v k h e (Memᴰ.tail i) = after_lowest r w (v ∷ k) h e i

  along_lowest : (r : List Point) → IsHull (number_points l s) (onto r []) → LowestOfTies l s (entries_along r)
  along_lowest [] h e x'' = elim x'' [ ]
  along_lowest (v ∷ r) h e (Memᴰ.head i) =
      subst⁻¹ (λ (g : Entry). (q : Site) → Memᴰ q s → TieAlong l g.site q → g.site.number ≤ q.number) i (vertex_lowest r v [] h)
  along_lowest (v ∷ r) h e (Memᴰ.tail i) = after_lowest r v [] h e i

  -- THE LIST BEFORE C-11 names "the least-numbered"
  pub lowest_of_ties : LowestOfTies l s (split_by_number l s)
  unfolding split_by_number
  lowest_of_ties =
      let h = build (number_points l s) in
      along_lowest (onto h []) (rw (onto_onto h [] [], append-nil h) (build_hull (number_points l s)))
