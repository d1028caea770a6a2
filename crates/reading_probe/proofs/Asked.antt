-- The laws that the two returns of `probe_coordinate` cite.
-- Assumes nothing.
use mathlib.Core.Path.{◌≡◌, refl, sym, ap, ◌∙◌, subst}
use mathlib.Core.Bool.{Bool, true, false}
use Prim.Native.Nat.{ℕ}
use lib.Dec.{T}
use lib.Ieee.{Float}
use lib.Ieee.Positive.{num, den}
use lib.Ieee.Scale.{finite}
use Rattle.readings.specs.Reading.{finite?, Within}
use Rattle.readings.specs.Location.{sign_of, coordinate_in, number_of, Rounded}
use Rattle.readings.proofs.Patterns.{finite_number, coordinate_number}
use Rattle.reading_probe.specs.Probed.{probed, Probed}

module _ (b : ℕ) (x : Float) (is : x ≡ number_of b) (q : Bool) (f : q ≡ finite x) where
  told : finite? b ≡ q
  told = sym (f ∙ ap finite is ∙ finite_number b)

  pub probed_finite : q ≡ true → (r : ℕ) → Rounded x r → Probed b r
  unfolding probed
  probed_finite e r h =
      record {
        is = rw (told ∙ e) (h.is ∙ ap coordinate_in is ∙ coordinate_number b (subst T (sym (told ∙ e)) tt));
        within = λ f l. subst (λ (y : Float). Within (sign_of y) (num y) (den y) r) is (h.within l);
      }

  pub probed_not : q ≡ false → Probed b 65536
  unfolding probed
  probed_not e = record { is = rw (told ∙ e) refl; within = λ f l. absurd (subst T (told ∙ e) f) }
