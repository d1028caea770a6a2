-- The right-hand side of a leg. Document 02, C-11: "Right means that (E.east - S.east) × (p.north - S.north) -
-- (E.north - S.north) × (p.east - S.east) is below zero." Here with natural numbers, and as it is written there;
-- proofs/CrossProduct.antt shows that the two are one, on the signed coordinates of commands.
-- Assumes nothing.
use Rattle.std.specs.Prelude.{ℕ, ◌+◌, ◌*◌, ◌<◌, ℤ, pos, ◌-ℤ◌, ◌*ℤ◌}
use Rattle.std.proofs.Math.Decide.{dec_lt}
use Rattle.std.specs.Int.{w16}
use Rattle.std.proofs.Common.{to_z}
use Rattle.limits.specs.Limits.{half_width}
use Rattle.grid.specs.declared.Position.{Position}
use Rattle.grid.specs.declared.Leg.{Leg}

-- the products with a plus, when it is multiplied out
abbrev pub cross_plus : Leg → Position → ℕ
cross_plus l p = l.e.east * p.north + l.e.north * l.s.east + l.s.north * p.east

-- the products with a minus; S.east × S.north has both, and is left out
abbrev pub cross_minus : Leg → Position → ℕ
cross_minus l p = l.e.east * l.s.north + l.s.east * p.north + l.e.north * p.east

-- p is on the right of the leg: the difference of the two "is below zero"
unfoldable pub OnTheRight : Leg → Position → Type 0
OnTheRight l p = cross_plus l p < cross_minus l p

-- whether it is
unfoldable pub on_the_right? : (l : Leg) (p : Position) → Dec (OnTheRight l p)
unfolding OnTheRight
on_the_right? l p = dec_lt (cross_plus l p) (cross_minus l p)

-- a position in signed numbers, as document 02 writes it
pub record Signed : Type 0 where
  pub east : ℤ
  pub north : ℤ

-- "(E.east - S.east) × (p.north - S.north) - (E.north - S.north) × (p.east - S.east)"
abbrev pub cross_product : Signed → Signed → Signed → ℤ
cross_product S E p = (E.east -ℤ S.east) *ℤ (p.north -ℤ S.north) -ℤ (E.north -ℤ S.north) *ℤ (p.east -ℤ S.east)

-- a position, counted from the grid's middle
abbrev pub signed_of : Position → Signed
signed_of p = record { east = pos p.east -ℤ pos half_width; north = pos p.north -ℤ pos half_width }

-- two 16-bit words of a command as signed numbers: two's complement, as the language reads them
abbrev pub signed_words : ℕ → ℕ → Signed
signed_words e n = record { east = to_z w16 e; north = to_z w16 n }

-- the leg turned round
abbrev pub way_back : Leg → Leg
way_back l = record { s = l.e; e = l.s }
