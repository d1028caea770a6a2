-- What a list names at a fraction: one_fraction site more changes it only to that site, one_fraction site less only where that site stood.
-- Assumes nothing.
use mathlib.Core.Path.{subst, ap, ◌≡◌, refl, sym, ◌∙◌}
use mathlib.Core.Logic.{◌⊎◌, inl, inr, ⊎_map}
use Rattle.std.specs.Prelude.{Some}
use mathlib.Core.List.Memᴰ
use mathlib.Core.List.{List, [], ◌∷◌, Memᴰ}
use Prim.Native.Nat.{◌*◌, ◌≤◌, ◌<◌}
use native.Mathlib.Nat.{mul-le-mul_left, mul-le-mul_right}
use native.Mathlib.Decide.{dec_le, dec_lt}
use native.Mathlib.Omega.{arith}
use Rattle.grid.specs.declared.Fraction.{Fraction}
use Rattle.grid.specs.declared.Leg.{Leg}
use Rattle.grid.specs.declared.Site.{Site}
use Rattle.grid.specs.Fraction.{IsFraction, Below, NotAbove, one_fraction}
use Rattle.grid.proofs.Order.{not_above_below, Shared, overlap, mid, mid_fraction}
use Rattle.split.specs.SplitList.{Leads, Entry, Stretches, IsSplitList, Numbered, or_else, name_from, name_at}
use Rattle.split.proofs.Unique.{end_fraction, one_number}

-- p leads from a to b, and a and b lie at t: t is a, or t and b are 1
pub record LeadsNear (l : Leg) (s : List Site) (t : Fraction) (p : Site) : Type 0 where
  pub a : Fraction
  pub b : Fraction
  pub a_frac : IsFraction a
  pub b_frac : IsFraction b
  pub rises : Below a b
  pub leads : (u : Fraction) → IsFraction u → Below a u → Below u b → Leads l s u p
  pub right : Below t one_fraction → (a ≡ t)
  pub left : NotAbove one_fraction t → (b ≡ one_fraction)

-- no fraction below 1 lies above one_fraction that is not
past : (f t : Fraction) → ¬ (f.num * t.den ≤ t.num * f.den) → NotAbove one_fraction t → f.num < f.den → ⊥
past f t h k b =
    let c : f.num ≤ f.den = omega arith in
    let d : t.den ≤ t.num = omega arith in
    omega (arith, mul-le-mul_right t.den c, mul-le-mul_left f.den d)

module _ (l : Leg) (s : List Site) (t : Fraction) (ft : IsFraction t) where
  named_leads : (es : List Entry) (e : Entry) → Stretches l s (e ∷ es) → NotAbove e.start t → LeadsNear l s t (name_from t e es)
  unfolding name_from
  named_leads [] e h le = go (dec_lt (t.num * 1) (1 * t.den))
    where
      go : Dec (t.num * 1 < 1 * t.den) → LeadsNear l s t e.site
      go (yes k) =
          record {
            a = t;
            b = one_fraction;
            a_frac = ft;
            b_frac = omega arith;
            rises = k;
            leads = λ u fu x y. h.0.leads u fu (omega (arith, not_above_below e.start t u (end_fraction l s (e ∷ []) h).positive le x)) (omega (arith, y));
            right = λ z. refl;
            left = λ z. absurd (omega arith);
          }
      go (no k) =
          record {
            a = e.start;
            b = one_fraction;
            a_frac = end_fraction l s (e ∷ []) h;
            b_frac = omega arith;
            rises = h.0.rises;
            leads = λ u fu x y. h.0.leads u fu (omega (arith, x)) (omega (arith, y));
            right = λ z. absurd (omega arith);
            left = λ z. refl;
          }
  named_leads (f ∷ fs) e h le = go (dec_le (f.start.num * t.den) (t.num * f.start.den)) (named_leads fs f h.1)
    where
      go : (d : Dec (f.start.num * t.den ≤ t.num * f.start.den)) → (NotAbove f.start t → LeadsNear l s t (name_from t f fs)) → LeadsNear l s t (or_else d (name_from t f fs) e.site)
      go (yes k) ih = ih k
      go (no k) ih =
          let below : f.start.num < f.start.den = h.1.0.below1 in
          record {
            a = t;
            b = f.start;
            a_frac = ft;
            b_frac = end_fraction l s (f ∷ fs) h.1;
            rises = omega arith;
            leads = λ u fu x y. h.0.leads u fu (omega (arith, not_above_below e.start t u (end_fraction l s (e ∷ f ∷ fs) h).positive le x)) (omega (arith, y));
            right = λ z. refl;
            left = λ z. absurd (past f.start t k z below);
          }

-- two that lead near t lead together somewhere
pub together : (l : Leg) (s u : List Site) (t : Fraction) (p q : Site) → LeadsNear l s t p → LeadsNear l u t q
    → (v : Fraction) × Leads l s v p × Leads l u v q
together l s u t p q h k = go (dec_lt (t.num * 1) (1 * t.den))
  where
    met : Below h.a k.b → Below k.a h.b → (v : Fraction) × Leads l s v p × Leads l u v q
    met x y =
        let i : Shared h.a h.b k.a k.b = overlap h.a h.b k.a k.b h.a_frac h.b_frac k.a_frac k.b_frac h.rises k.rises x y in
        (i.at, h.leads i.at i.frac i.after_s i.before_a, k.leads i.at i.frac i.after_t i.before_b)

    go : Dec (t.num * 1 < 1 * t.den) → (v : Fraction) × Leads l s v p × Leads l u v q
    go (yes z) =
        let e : h.a ≡ k.a = h.right z ∙ sym (k.right z) in
        met (rw e k.rises) (rw (← e) h.rises)
    go (no z) =
        let e : h.b ≡ k.b = h.left (omega arith) ∙ sym (k.left (omega arith)) in
        met (rw (← e) h.rises) (rw e k.rises)

pub fewer : (p : Site) (s : List Site) → Numbered (p ∷ s) → Numbered s
fewer p s h =
    record { small = λ q m. h.small q (Memᴰ.tail m); one = λ a b x y. h.one a b (Memᴰ.tail x) (Memᴰ.tail y) }

-- of s and of s with p: the same leader, or p
same_or_new : (l : Leg) (s : List Site) (p : Site) → Numbered (p ∷ s) → (t : Fraction) (x y : Site) → Leads l s t x → Leads l (p ∷ s) t y → (y ≡ x) ⊎ (y ≡ p)
same_or_new l s p numbered t x y hx hy = go (Memᴰ.cases_cons hy.held)
  where
    go : (y ≡ p) ⊎ Memᴰ y s → (y ≡ x) ⊎ (y ≡ p)
    go (inl e) = inr e
    go (inr m) =
        let old : Leads l s t y = record { held = m; nearest = λ q n. hy.nearest q (Memᴰ.tail n); least = λ q n. hy.least q (Memᴰ.tail n) } in
        inl (numbered.one y x (Memᴰ.tail m) (Memᴰ.tail hx.held) (one_number l s (fewer p s numbered) t y x old hx))

-- p leads somewhere
leads_somewhere : (l : Leg) (s : List Site) (t : Fraction) (p : Site) → LeadsNear l s t p → Memᴰ p s
leads_somewhere l s t p h =
    (h.leads (mid h.a h.b) (mid_fraction h.a h.b h.a_frac h.b_frac) (omega (arith, h.rises)) (omega (arith, h.rises))).held

-- the list's name at t leads near t
list_leads : (l : Leg) (s : List Site) (e : Entry) (es : List Entry) → IsSplitList l s (e ∷ es) → (t : Fraction) → IsFraction t → LeadsNear l s t (name_from t e es)
list_leads l s e es h t ft = named_leads l s t ft es e h.rules (rw h.opens (omega arith))

-- ONE SITE MORE: at every fraction the new list names what the old one names, or the new site
pub added : (l : Leg) (s : List Site) (p : Site) → Numbered (p ∷ s) → (es fs : List Entry) → IsSplitList l s es → IsSplitList l (p ∷ s) fs
    → (t : Fraction) → IsFraction t → (name_at t fs ≡ name_at t es) ⊎ (name_at t fs ≡ Some p)
added l s p numbered es [] h k t ft = absurd (Memᴰ.not-nil (subst (λ (x : List Site). Memᴰ p x) k.opens (Memᴰ.head refl)))
added l s p numbered [] (f ∷ fs) h k t ft = inr (ap Some (go (Memᴰ.cases_cons (leads_somewhere l (p ∷ s) t _ (list_leads l (p ∷ s) f fs k t ft)))))
  where
    go : (name_from t f fs ≡ p) ⊎ Memᴰ (name_from t f fs) s → name_from t f fs ≡ p
    go (inl e) = e
    go (inr m) = absurd (Memᴰ.not-nil (subst (λ (x : List Site). Memᴰ (name_from t f fs) x) h.opens m))
added l s p numbered (e ∷ es) (f ∷ fs) h k t ft = ⊎_map (ap Some) (ap Some) (same_or_new l s p numbered v.0 (name_from t e es) (name_from t f fs) v.1 v.2)
  where
    v : (v : Fraction) × Leads l s v (name_from t e es) × Leads l (p ∷ s) v (name_from t f fs)
    v = together l s (p ∷ s) t (name_from t e es) (name_from t f fs) (list_leads l s e es h t ft) (list_leads l (p ∷ s) f fs k t ft)

-- ONE SITE LESS: at every fraction the new list names what the old one names, or the old one named the site that is gone
pub removed : (l : Leg) (s : List Site) (p : Site) → Numbered (p ∷ s) → (es fs : List Entry) → IsSplitList l (p ∷ s) es → IsSplitList l s fs
    → (t : Fraction) → IsFraction t → (name_at t fs ≡ name_at t es) ⊎ (name_at t es ≡ Some p)
removed l s p numbered es fs h k t ft = ⊎_map sym (λ e. e) (added l s p numbered fs es k h t ft)
