-- No site is listed twice, so a list has at most as many entries as there are sites.
-- Assumes nothing.
use mathlib.Core.Path.{◌≡◌, refl, ap, sym, subst, ◌∙◌}
use mathlib.Core.Logic.{◌≢◌, ◌⊎◌, inl, inr}
use mathlib.Core.List.Memᴰ
use mathlib.Core.List.{List, [], ◌∷◌, Memᴰ}
use Prim.Native.Nat.{suc, ◌≤◌, zero-le}
use native.Mathlib.Omega.{arith}
use lib.ListN.{length}
use Rattle.grid.specs.declared.Fraction.{Fraction}
use Rattle.grid.specs.declared.Leg.{Leg}
use Rattle.grid.specs.declared.Site.{Site}
use Rattle.grid.specs.Fraction.{IsFraction, Below}
use Rattle.grid.proofs.Order.{below_trans, mid, mid_fraction}
use Rattle.split.specs.SplitList.{Leads, Entry, end_of, Stretches, IsSplitList, Numbered}
use Rattle.split.proofs.Between.{leads_between}
use Rattle.split.proofs.Unique.{end_fraction, one_number}

-- one leader left and right of another's fraction has the other's number
three : (l : Leg) (s : List Site) → Numbered s → (t u v : Fraction) (p q : Site) → IsFraction t → IsFraction u → IsFraction v → Below t u → Below u v
    → Leads l s t p → Leads l s u q → Leads l s v p → p.number ≡ q.number
three l s numbered t u v p q ft fu fv tu uv ht hu hv =
    let k : Leads l s u p = leads_between l t u v ft fu fv tu uv s p ht hv in
    one_number l s numbered u p q k hu

-- a fraction after u at which p leads
pub record Later (l : Leg) (s : List Site) (u : Fraction) (p : Site) : Type 0 where
  pub at : Fraction
  pub frac : IsFraction at
  pub after : Below u at
  pub leads : Leads l s at p

module _ (l : Leg) (s : List Site) (numbered : Numbered s) where
  -- inside the first stretch
  first : (e : Entry) (es : List Entry) → Stretches l s (e ∷ es) → Later l s e.start e.site
  first e es h =
      let fs : IsFraction e.start = end_fraction l s (e ∷ es) h in
      let fe : IsFraction (end_of es) = end_fraction l s es h.1 in
      let r : Below e.start (end_of es) = h.0.rises in
      record {
        at = mid e.start (end_of es);
        frac = mid_fraction _ _ fs fe;
        after = omega arith;
        leads = h.0.leads _ (mid_fraction _ _ fs fe) (omega arith) (omega arith);
      }

  after_end : (f : Entry) (es : List Entry) → Stretches l s es → Memᴰ f es → (u : Fraction) → IsFraction u → Below u (end_of es) → Later l s u f.site
  after_end f es h (Memᴰ.head {x} {xs} e) u fu b =
      let r : Later l s x.start x.site = first x xs h in
      record {
        at = r.at;
        frac = r.frac;
        after = below_trans u x.start r.at fu.positive r.frac.positive b r.after;
        leads = subst (λ (g : Entry). Leads l s r.at g.site) (sym e) r.leads;
      }
  after_end f es h (Memᴰ.tail {x} {xs} m) u fu b =
      after_end f xs h.1 m u fu
      (below_trans u x.start (end_of xs) fu.positive (end_fraction l s xs h.1).positive b h.0.rises)

  -- an entry's site is not that of a later one
  pub once : (e : Entry) (es : List Entry) → Stretches l s (e ∷ es) → (f : Entry) → Memᴰ f es → e.site ≢ f.site
  once e [] h f m z = Memᴰ.not-nil m
  once e (g ∷ gs) h f m z = go (Memᴰ.cases_cons m)
    where
      fe : IsFraction e.start
      fe = end_fraction l s (e ∷ g ∷ gs) h

      fg : IsFraction g.start
      fg = end_fraction l s (g ∷ gs) h.1

      fz : IsFraction (end_of gs)
      fz = end_fraction l s gs h.1.1

      eg : Below e.start g.start
      eg = h.0.rises

      gz : Below g.start (end_of gs)
      gz = h.1.0.rises

      ez : Below e.start (end_of gs)
      ez = below_trans e.start g.start (end_of gs) fe.positive fz.positive eg gz

      t : Fraction
      t = mid e.start g.start

      u : Fraction
      u = mid g.start (end_of gs)

      ft : IsFraction t
      ft = mid_fraction e.start g.start fe fg

      fu : IsFraction u
      fu = mid_fraction g.start (end_of gs) fg fz

      ht : Leads l s t e.site
      ht = h.0.leads t ft (omega arith) (omega arith)

      hu : Leads l s u g.site
      hu = h.1.0.leads u fu (omega arith) (omega arith)

      go : (f ≡ g) ⊎ Memᴰ f gs → ⊥
      go (inl q) = h.0.changes (ap (λ (p : Site). p.number) (z ∙ ap (λ (x : Entry). x.site) q))
      go (inr m') =
          let r : Later l s u f.site = after_end f gs h.1.1 m' u fu (omega arith) in
          h.0.changes
          (three l s numbered t u r.at e.site g.site ft fu r.frac (omega (arith, eg, gz, ez)) r.after ht hu
          (subst (λ (p : Site). Leads l s r.at p) (sym z) r.leads))

-- a list without one of its members
pub record Without (s : List Site) (p : Site) : Type 0 where
  pub rest : List Site
  pub shorter : length s ≡ suc (length rest)
  pub keeps : (q : Site) → Memᴰ q s → q ≢ p → Memᴰ q rest

without : (p : Site) (s : List Site) → Memᴰ p s → Without s p
without p s (Memᴰ.head {x} {xs} e) = record { rest = xs; shorter = refl; keeps = λ q m d. go q d (Memᴰ.cases_cons m) }
  where
    go : (q : Site) → q ≢ p → (q ≡ x) ⊎ Memᴰ q xs → Memᴰ q xs
    go q d (inl z) = absurd (d (z ∙ sym e))
    go q d (inr m) = m
without p s (Memᴰ.tail {x} {xs} m) = go (without p xs m)
  where
    go : Without xs p → Without (x ∷ xs) p
    go w = record { rest = x ∷ w.rest; shorter = ap suc w.shorter; keeps = λ q n d. pick q d (Memᴰ.cases_cons n) }
      where
        pick : (q : Site) → q ≢ p → (q ≡ x) ⊎ Memᴰ q xs → Memᴰ q (x ∷ w.rest)
        pick q d (inl z) = Memᴰ.head z
        pick q d (inr n) = Memᴰ.tail (w.keeps q n d)

-- what is listed is held
listed_held : (l : Leg) (s : List Site) → Numbered s → (f : Entry) (es : List Entry) → Stretches l s es → Memᴰ f es → Memᴰ f.site s
listed_held l s numbered f es h (Memᴰ.head {x} {xs} e) = subst (λ (g : Entry). Memᴰ g.site s) (sym e) (first l s numbered x xs h).leads.held
listed_held l s numbered f es h (Memᴰ.tail {x} {xs} m) = listed_held l s numbered f xs h.1 m

count : (l : Leg) (s u : List Site) → Numbered s → (es : List Entry) → Stretches l s es → ((f : Entry) → Memᴰ f es → Memᴰ f.site u) → length es ≤ length u
count l s u numbered [] h m = zero-le
count l s u numbered (e ∷ es) h m = go (without e.site u (m e (Memᴰ.head refl))) (λ v. count l s v numbered es h.1)
  where
    go : Without u e.site → ((v : List Site) → ((f : Entry) → Memᴰ f es → Memᴰ f.site v) → length es ≤ length v) → suc (length es) ≤ length u
    go w ih =
        omega (
          arith,
          w.shorter,
          ih w.rest (λ f n. w.keeps f.site (m f (Memᴰ.tail n)) (λ z. once l s numbered e es h f n (sym z))),
        )

-- AT MOST AS MANY ENTRIES AS SITES
pub few : (l : Leg) (s : List Site) → Numbered s → (es : List Entry) → IsSplitList l s es → length es ≤ length s
few l s numbered es h = count l s s numbered es h.rules (λ f. listed_held l s numbered f es h.rules)
