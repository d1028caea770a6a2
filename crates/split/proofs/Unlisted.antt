-- A site that is not listed may go: the list stays.
-- Assumes nothing.
use mathlib.Core.Path.{◌≡◌, refl}
use mathlib.Core.Logic.{◌≢◌, ◌⊎◌, inl, inr}
use mathlib.Core.List.Memᴰ
use mathlib.Core.List.{List, [], ◌∷◌, Memᴰ}
use Rattle.grid.specs.declared.Fraction.{Fraction}
use Rattle.grid.specs.declared.Leg.{Leg}
use Rattle.grid.specs.declared.Site.{Site}
use Rattle.split.specs.SplitList.{Leads, Entry, Stretches, IsSplitList}

module _ (l : Leg) (s : List Site) (p : Site) where
  leads_less : (t : Fraction) (x : Site) → x ≢ p → Leads l (p ∷ s) t x → Leads l s t x
  leads_less t x d h =
      record {
        held = go (Memᴰ.cases_cons h.held);
        nearest = λ q m. h.nearest q (Memᴰ.tail m);
        least = λ q m. h.least q (Memᴰ.tail m);
      }
    where
      go : (x ≡ p) ⊎ Memᴰ x s → Memᴰ x s
      go (inl e) = absurd (d e)
      go (inr m) = m

  rules_less : (es : List Entry) → ((f : Entry) → Memᴰ f es → f.site ≢ p) → Stretches l (p ∷ s) es → Stretches l s es
  rules_less [] d h = tt
  rules_less (e ∷ es) d h = (
    record {
      below1 = h.0.below1;
      reduced = h.0.reduced;
      rises = h.0.rises;
      leads = λ t f a b. leads_less t e.site (d e (Memᴰ.head refl)) (h.0.leads t f a b);
      changes = h.0.changes;
    },
    rules_less es (λ f m. d f (Memᴰ.tail m)) h.1,
  )

  -- THE LIST STAYS where the site that goes is not listed
  pub unlisted : (e : Entry) (es : List Entry) → ((f : Entry) → Memᴰ f (e ∷ es) → f.site ≢ p) → IsSplitList l (p ∷ s) (e ∷ es) → IsSplitList l s (e ∷ es)
  unlisted e es d h = record { opens = h.opens; rules = rules_less (e ∷ es) d h.rules }
