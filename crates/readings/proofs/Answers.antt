-- The laws that the returns of `is_finite`, `reading_at`, `survey` and `locate` cite.
-- Assumes nothing.
use Rattle.std.proofs.Common.{◌≡◌, ℕ, ◌+◌, Bool, true, false, T, List, sym, refl, ap, ◌∙◌, subst, true≢false}
use lib.Ieee.{Float, nan, inf, fin, binary32, neg, lt, of_bits}
use lib.Ieee.Scale.{finite}
use Rattle.std.specs.Float.{float_is_finite}
use Rattle.grid.specs.declared.Position.{Position}
use Rattle.readings.specs.declared.Reading.{Reading}
use Rattle.readings.specs.declared.Location.{Location}
use Rattle.readings.specs.declared.Location.TheVariants.{InSteps, InMetres}
use Rattle.std.specs.Prelude.{Option, None, Some}
use Rattle.readings.specs.Location.{position_of, Stepped, located_at, long_at, number_of, reading_at}

-- ---- `is_finite`

pub finite_same : (x : Float) → float_is_finite x ≡ finite x
unfolding float_is_finite
finite_same nan = refl
finite_same (inf s) = refl
finite_same (fin s m e) = refl

-- the same told by comparing with the infinities
pub finite_below : (x : Float) → lt x (of_bits binary32 0x7F800000) ≡ true
    → lt (neg (of_bits binary32 0x7F800000)) x ≡ finite x
unfolding lt neg of_bits
finite_below nan h = refl
finite_below (inf true) h = refl
finite_below (inf false) h = absurd (true≢false (sym h))
finite_below (fin s m e) h = refl

pub finite_not : (x : Float) → lt x (of_bits binary32 0x7F800000) ≡ false → false ≡ finite x
unfolding lt of_bits
finite_not nan h = refl
finite_not (inf s) h = refl
finite_not (fin s m e) h = absurd (true≢false h)

pub finite_told : (x : Float) (q : Bool) → q ≡ finite x → q ≡ true → T (finite x)
finite_told x q f e = subst T (sym (sym f ∙ e)) tt

-- ---- `reading_at`

pub reading_is : (s : List ℕ) (i e n : ℕ) (x y : Float) → e ≡ long_at s i → n ≡ long_at s (i + 4)
    → x ≡ number_of e → y ≡ number_of n → ◌≡◌ {A = Reading} (record { easting = x; northing = y }) (reading_at s i)
reading_is s i e n x y f g p q =
    λ j. record { easting = (p ∙ ap number_of f) j; northing = (q ∙ ap number_of g) j }

-- ---- `survey`

pub stepped_is : {r : Reading} {p : Position} → Stepped r p → p ≡ position_of r
stepped_is h = λ i. record { east = h.east.is i; north = h.north.is i }

module _ (r : Reading) (q : Bool) (f : q ≡ finite r.easting) where
  pub survey_first : q ≡ false → None ≡ located_at (InMetres r)
  unfolding located_at
  survey_first e = rw (sym f ∙ e) refl

  pub survey_second : q ≡ true → (t : Bool) → t ≡ finite r.northing → t ≡ false → None ≡ located_at (InMetres r)
  unfolding located_at
  survey_second e t g d = rw (sym f ∙ e, sym g ∙ d) refl

  pub survey_both : q ≡ true → (t : Bool) → t ≡ finite r.northing → t ≡ true → (p : Position) → Stepped r p
      → Some p ≡ located_at (InMetres r)
  unfolding located_at
  survey_both e t g d p h = rw (sym f ∙ e, sym g ∙ d) (ap Some (stepped_is h))

-- ---- `locate`

pub located_steps : (l : Location) (p : Position) → l ≡ InSteps p → Some p ≡ located_at l
unfolding located_at
located_steps l p e = rw e refl

pub located_metres : (l : Location) (r : Reading) (s : Option Position) → l ≡ InMetres r → s ≡ located_at (InMetres r) → s ≡ located_at l
located_metres l r s e h = rw e h
