-- Document 01's own form of "nearer": with A the squared distance from S and "B = 2 × ((p - S) · (E - S)), the dot
-- product", "p is nearer than q at t exactly when A(p) - tB(p) < A(q) - tB(q)". B is held as plus less minus, so that
-- all is natural.
-- Assumes nothing.
use Rattle.std.specs.Prelude.{ℕ, ◌+◌, ◌*◌, ◌<◌}
use Rattle.grid.specs.declared.Site.{Site}
use Rattle.grid.specs.declared.Leg.{Leg}
use Rattle.grid.specs.declared.Fraction.{Fraction}
use Rattle.grid.specs.Position.{distance}

-- the terms of 2 × ((p - S) · (E - S)) with a plus
abbrev pub plus : Leg → Site → ℕ
plus l p = 2 * (p.position.east * l.e.east + l.s.east * l.s.east) + 2 * (p.position.north * l.e.north + l.s.north * l.s.north)

-- the terms with a minus
abbrev pub minus : Leg → Site → ℕ
minus l p = 2 * (p.position.east * l.s.east + l.s.east * l.e.east) + 2 * (p.position.north * l.s.north + l.s.north * l.e.north)

-- A(p) - tB(p) < A(q) - tB(q), times the denominator of t, with every minus moved to the other side
abbrev pub NearerByDot : Leg → Fraction → Site → Site → Type 0
NearerByDot l t p q =
    t.den * distance p.position l.s + t.num * minus l p + t.num * plus l q
    < t.den * distance q.position l.s + t.num * minus l q + t.num * plus l p
