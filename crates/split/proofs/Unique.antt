-- The list is unique: two lists that satisfy the rules for the same sites, in whatever order, are equal.
-- Assumes nothing.
use mathlib.Core.Path.{◌≡◌, refl, ap, sym, subst, ◌∙◌}
use mathlib.Core.List.Memᴰ
use mathlib.Core.List.{List, [], ◌∷◌, Memᴰ}
use Prim.Native.Nat.{◌*◌, ◌<◌}
use native.Mathlib.Decide.{dec_lt}
use native.Mathlib.Omega.{arith}
use Rattle.grid.specs.declared.Fraction.{Fraction}
use Rattle.grid.specs.declared.Leg.{Leg}
use Rattle.grid.specs.declared.Site.{Site}
use Rattle.grid.specs.Fraction.{IsFraction, Below}
use Rattle.grid.proofs.Order.{same_fraction, below_trans, Shared, overlap}
use Rattle.split.specs.SplitList.{distance_at, Leads, Entry, end_of, Stretches, Opens, IsSplitList, Numbered, SameSites}
use Rattle.split.proofs.Ranks.{rank_number}

-- the order of the sites does not matter
leads_same : (l : Leg) (s u : List Site) → SameSites s u → (t : Fraction) (p : Site) → Leads l s t p → Leads l u t p
leads_same l s u e t p h =
    record {
      held = e.to p h.held;
      nearest = λ q m. h.nearest q (e.back q m);
      least = λ q m. h.least q (e.back q m);
    }

stretches_same : (l : Leg) (s u : List Site) → SameSites s u → (es : List Entry) → Stretches l s es → Stretches l u es
stretches_same l s u e [] h = tt
stretches_same l s u e (x ∷ xs) h = (
  record {
    below1 = h.0.below1;
    reduced = h.0.reduced;
    rises = h.0.rises;
    leads = λ t f a b. leads_same l s u e t x.site (h.0.leads t f a b);
    changes = h.0.changes;
  },
  stretches_same l s u e xs h.1,
)

opens_same : (s u : List Site) → SameSites s u → (es : List Entry) → Opens s es → Opens u es
opens_same s [] e [] h = refl
opens_same s (p ∷ ps) e [] h =
    absurd (Memᴰ.not-nil (subst (λ (x : List Site). Memᴰ p x) h (e.back p (Memᴰ.head refl))))
opens_same s u e (x ∷ xs) h = h

pub order_free : (l : Leg) (s u : List Site) → SameSites s u → (es : List Entry) → IsSplitList l s es → IsSplitList l u es
order_free l s u e es h =
    record { opens = opens_same s u e es h.opens; rules = stretches_same l s u e es h.rules }

pub end_fraction : (l : Leg) (s : List Site) (es : List Entry) → Stretches l s es → IsFraction (end_of es)
end_fraction l s [] h = omega arith
end_fraction l s (x ∷ xs) h = let k : x.start.num < x.start.den = h.0.below1 in omega arith

pub one_number : (l : Leg) (s : List Site) → Numbered s → (t : Fraction) (p q : Site) → Leads l s t p → Leads l s t q → p.number ≡ q.number
one_number l s numbered t p q hp hq =
    let e : distance_at l t p ≡ distance_at l t q = omega (arith, hp.nearest q hq.held, hq.nearest p hp.held) in
    rank_number l p q (numbered.small p hp.held) (numbered.small q hq.held) (omega (arith, hp.least q hq.held e, hq.least p hp.held (sym e)))

module _ (l : Leg) (s : List Site) (numbered : Numbered s) where
  one_leader : (t : Fraction) (p q : Site) → Leads l s t p → Leads l s t q → p ≡ q
  one_leader t p q hp hq = numbered.one p q hp.held hq.held (one_number l s numbered t p q hp hq)

  -- two stretches that overlap have one site
  same_site : (e f : Entry) (es fs : List Entry) → Stretches l s (e ∷ es) → Stretches l s (f ∷ fs)
      → Below e.start (end_of fs) → Below f.start (end_of es) → e.site ≡ f.site
  same_site e f es fs he hf a b =
      go
      (overlap e.start (end_of es) f.start (end_of fs) (end_fraction l s (e ∷ es) he) (end_fraction l s es he.1)
      (end_fraction l s (f ∷ fs) hf) (end_fraction l s fs hf.1) he.0.rises hf.0.rises a b)
    where
      go : Shared e.start (end_of es) f.start (end_of fs) → e.site ≡ f.site
      go i =
          one_leader i.at e.site f.site (he.0.leads i.at i.frac (omega (arith, i.after_s)) (omega (arith, i.before_a)))
          (hf.0.leads i.at i.frac (omega (arith, i.after_t)) (omega (arith, i.before_b)))

  -- the entry after one ends after it begins
  next_end : (e g : Entry) (gs : List Entry) → Stretches l s (e ∷ g ∷ gs) → Below e.start (end_of gs)
  next_end e g gs h =
      below_trans e.start g.start (end_of gs) (end_fraction l s (e ∷ g ∷ gs) h).positive (end_fraction l s gs h.1.1).positive
      h.0.rises h.1.0.rises

  -- the next entry of one list does not begin inside a stretch of the same site of the other
  no_next : (e f g : Entry) (es gs : List Entry) → Stretches l s (e ∷ es) → Stretches l s (f ∷ g ∷ gs)
      → e.start ≡ f.start → e.site ≡ f.site → Below g.start (end_of es) → ⊥
  no_next e f g es gs he hf st si b =
      let k : Below e.start (end_of gs) = rw st (next_end f g gs hf) in
      let eg : e.site ≡ g.site = same_site e g es gs he hf.1 k b in
      hf.0.changes (ap (λ (p : Site). p.number) (sym si ∙ eg))

  first_site : (e f : Entry) (es fs : List Entry) → e.start ≡ f.start → Stretches l s (e ∷ es) → Stretches l s (f ∷ fs) → e.site ≡ f.site
  first_site e f es fs st he hf =
      let a : Below e.start (end_of fs) = rw st hf.0.rises in
      let b : Below f.start (end_of es) = rw (← st) he.0.rises in
      same_site e f es fs he hf a b

  same_entry : (e f : Entry) → e.start ≡ f.start → e.site ≡ f.site → e ≡ f
  same_entry e f st si = λ i. record { site = si i; start = st i }

  next_start : (e f g h : Entry) (gs hs : List Entry) → e.start ≡ f.start → e.site ≡ f.site
      → Stretches l s (e ∷ g ∷ gs) → Stretches l s (f ∷ h ∷ hs) → g.start ≡ h.start
  next_start e f g h gs hs st si he hf = go (dec_lt (g.start.num * h.start.den) (h.start.num * g.start.den)) (dec_lt (h.start.num * g.start.den) (g.start.num * h.start.den))
    where
      go : Dec (g.start.num * h.start.den < h.start.num * g.start.den) → Dec (h.start.num * g.start.den < g.start.num * h.start.den) → g.start ≡ h.start
      go (yes a) q = absurd (no_next f e g (h ∷ hs) gs hf he (sym st) (sym si) a)
      go (no a) (yes b) = absurd (no_next e f h (g ∷ gs) hs he hf st si b)
      go (no a) (no b) =
          same_fraction g.start h.start he.1.0.reduced hf.1.0.reduced (end_fraction l s (g ∷ gs) he.1).positive
          (end_fraction l s (h ∷ hs) hf.1).positive (omega arith)

  from : (es fs : List Entry) (e f : Entry) → e.start ≡ f.start → Stretches l s (e ∷ es) → Stretches l s (f ∷ fs)
      → ◌≡◌ {A = List Entry} (e ∷ es) (f ∷ fs)
  from [] [] e f st he hf = ap (λ (x : Entry). x ∷ []) (same_entry e f st (first_site e f [] [] st he hf))
  from [] (h ∷ hs) e f st he hf =
      absurd
      (no_next e f h [] hs he hf st (first_site e f [] (h ∷ hs) st he hf)
      (let k : h.start.num < h.start.den = hf.1.0.below1 in omega arith))
  from (g ∷ gs) [] e f st he hf =
      absurd
      (no_next f e g [] gs hf he (sym st) (sym (first_site e f (g ∷ gs) [] st he hf))
      (let k : g.start.num < g.start.den = he.1.0.below1 in omega arith))
  from (g ∷ gs) (h ∷ hs) e f st he hf =
      let si : e.site ≡ f.site = first_site e f (g ∷ gs) (h ∷ hs) st he hf in
      let rest : ◌≡◌ {A = List Entry} (g ∷ gs) (h ∷ hs) = from gs hs g h (next_start e f g h gs hs st si he hf) he.1 hf.1 in
      λ i. same_entry e f st si i ∷ rest i

  none : (e : Entry) (es : List Entry) → Stretches l s (e ∷ es) → s ≡ [] → ⊥
  none e es h z =
      Memᴰ.not-nil
      (subst (λ (x : List Site). Memᴰ e.site x) z (go (overlap e.start (end_of es) e.start (end_of es) a b a b r r r r)))
    where
      a : IsFraction e.start
      a = end_fraction l s (e ∷ es) h

      b : IsFraction (end_of es)
      b = end_fraction l s es h.1

      r : Below e.start (end_of es)
      r = h.0.rises

      go : Shared e.start (end_of es) e.start (end_of es) → Memᴰ e.site s
      go i = (h.0.leads i.at i.frac (omega (arith, i.after_s)) (omega (arith, i.before_a))).held

  unique : (es fs : List Entry) → IsSplitList l s es → IsSplitList l s fs → es ≡ fs
  unique [] [] h k = refl
  unique [] (f ∷ fs) h k = absurd (none f fs k.rules h.opens)
  unique (e ∷ es) [] h k = absurd (none e es h.rules k.opens)
  unique (e ∷ es) (f ∷ fs) h k =
      let st : e.start ≡ f.start = h.opens ∙ sym k.opens in
      from es fs e f st h.rules k.rules

-- THE LIST IS UNIQUE: one leg, the same sites in any two orders, no number twice, one list
pub only_one : (l : Leg) (s u : List Site) → Numbered s → SameSites s u → (es fs : List Entry) → IsSplitList l s es → IsSplitList l u fs → es ≡ fs
only_one l s u numbered same es fs h k =
    unique l s numbered es fs h (order_free l u s (record { to = same.back; back = same.to }) fs k)
