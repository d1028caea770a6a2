-- Of the sites that tie along the whole leg, a list names the first by the tie rule of document 02, C-11.
-- Assumes nothing.
use mathlib.Core.Path.{◌≡◌, subst⁻¹}
use mathlib.Core.List.{List, ◌∷◌, Memᴰ}
use Prim.Native.Nat.{◌-◌, ◌<◌}
use native.Mathlib.Omega.{arith}
use Rattle.grid.specs.declared.Fraction.{Fraction}
use Rattle.grid.specs.declared.Leg.{Leg}
use Rattle.grid.specs.declared.Site.{Site}
use Rattle.grid.specs.Position.{distance}
use Rattle.grid.specs.Fraction.{IsFraction, zero_fraction, one_fraction}
use Rattle.grid.proofs.Order.{mid, mid_fraction}
use Rattle.split.specs.SplitList.{Leads, Entry, end_of, Stretches, IsSplitList, Numbered}
use Rattle.split.specs.Ties.{TieAlong, ComesFirst, FirstOfTies}
use Rattle.split.specs.Hull.{weigh, weigh_at}
use Rattle.split.proofs.Ranks.{rank_is}
use Rattle.split.proofs.Unique.{end_fraction}
use Rattle.split.proofs.Weights.{weights, far_eq, at_eq}

-- two sites as far from both ends of the leg tie along all of it
pub tie_along : (l : Leg) (p q : Site) → distance p.position l.s ≡ distance q.position l.s
    → distance p.position l.e ≡ distance q.position l.e → TieAlong l p q
unfolding weigh
tie_along l p q a c t f = far_eq l t (t.den - t.num) (weights t f) p q (cc)

-- and no others do
pub tie_ends : (l : Leg) (p q : Site) → TieAlong l p q
    → (distance p.position l.s ≡ distance q.position l.s) × (distance p.position l.e ≡ distance q.position l.e)
unfolding weigh_at weigh
tie_ends l p q tie =
    let start = at_eq l zero_fraction (omega arith) p q (tie zero_fraction (omega arith)) in
    let end = at_eq l one_fraction (omega arith) p q (tie one_fraction (omega arith)) in
    (omega arith, omega arith)

module _ (l : Leg) (s : List Site) (numbered : Numbered s) where
  -- a site that leads somewhere comes before q where the two tie
  leads_first : (p : Site) (t : Fraction) → IsFraction t → Leads l s t p
      → (q : Site) → Memᴰ q s → TieAlong l p q → ComesFirst l p q
  leads_first p t f h q held tie =
      (rank_is l p q (numbered.small p h.held) (numbered.small q held)).0 (h.least q held (tie t f))

  stretch_first : (e : Entry) (rest : List Entry) → Stretches l s (e ∷ rest)
      → (q : Site) → Memᴰ q s → TieAlong l e.site q → ComesFirst l e.site q
  stretch_first e rest h =
      let below : e.start.num < e.start.den = h.0.below1 in
      let t = mid e.start (end_of rest) in
      let f : IsFraction t = mid_fraction e.start (end_of rest) (omega arith) (end_fraction l s rest h.1) in
      leads_first e.site t f (h.0.leads t f (omega (arith, h.0.rises)) (omega (arith, h.0.rises)))

  stretches_first : (e : Entry) (es : List Entry) → Stretches l s es → Memᴰ e es → (q : Site) → Memᴰ q s → TieAlong l e.site q → ComesFirst l e.site q
  stretches_first e es h (Memᴰ.head {x = f} {xs = rest} i) =
      subst⁻¹ (λ (g : Entry). (q : Site) → Memᴰ q s → TieAlong l g.site q → ComesFirst l g.site q) i (stretch_first f rest h)
  stretches_first e es h (Memᴰ.tail {x = f} {xs = rest} i) = stretches_first e rest h.1 i

  -- OF SITES THAT TIE along the whole leg a list names one on the right before others; then the lower number
  pub first_of_ties : (es : List Entry) → IsSplitList l s es → FirstOfTies l s es
  first_of_ties es h = λ e. stretches_first e es h.rules
