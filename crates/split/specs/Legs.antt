-- The starred lines of document 01, "Legs to try", that end in a list, and one with the corners of the grid as C-12 of
-- document 02 has it: leg, sites, list.
-- Assumes nothing.
use Rattle.std.specs.Prelude.{List, [], ◌∷◌, ℕ, ◌+◌, ◌-◌}
use Rattle.limits.specs.Limits.{half_width}
use Rattle.grid.specs.declared.Position.{Position}
use Rattle.grid.specs.declared.Site.{Site}
use Rattle.grid.specs.declared.Leg.{Leg}
use Rattle.grid.specs.Side.{way_back}
use Rattle.split.specs.SplitList.{Entry}
use Rattle.split.specs.SplitOf.{split_of}

-- one leg to try
pub record Try : Type 0 where
  pub leg : Leg
  pub sites : List Site
  pub list : List Entry

-- so far east and north of the grid's middle
abbrev pub at : ℕ → ℕ → Position
at e n = record { east = half_width + e; north = half_width + n }

-- so far east and south of it
abbrev pub at_south : ℕ → ℕ → Position
at_south e n = record { east = half_width + e; north = half_width - n }

-- so far west and north of it
abbrev pub at_west : ℕ → ℕ → Position
at_west e n = record { east = half_width - e; north = half_width + n }

-- so far west and south of it
abbrev pub at_south_west : ℕ → ℕ → Position
at_south_west e n = record { east = half_width - e; north = half_width - n }

-- site k
abbrev pub site : ℕ → Position → Site
site k p = record { number = k; position = p }

-- site p from n/d
abbrev pub since : Site → ℕ → ℕ → Entry
since p n d = record { site = p; start = record { num = n; den = d } }

-- from s to e
abbrev pub leg : Position → Position → Leg
leg s e = record { s = s; e = e }

-- "Leg (0,0) to (10,0) unless another is named."
abbrev pub ten : Leg
ten = leg (at 0 0) (at 10 0)

-- "Leg (-8000,-8000) to (8000,8000)"
abbrev pub diagonal : Leg
diagonal = leg (at_south_west 8000 8000) (at 8000 8000)

-- "site 1 at its start and 2 at its end"
abbrev pub diagonal_sites : List Site
diagonal_sites = site 1 (at_south_west 8000 8000) ∷ site 2 (at 8000 8000) ∷ []

-- from corner to corner of the grid: (-12000,-12000) to (12000,12000)
abbrev pub longest : Leg
longest = leg (at_south_west 12000 12000) (at 12000 12000)

-- site 1 one step off its start and 2 at its end
abbrev pub longest_sites : List Site
longest_sites = site 1 (at_south_west 11999 12000) ∷ site 2 (at 12000 12000) ∷ []

-- a line of the table
abbrev pub try : Leg → List Site → List Entry → Try
try l s es = record { leg = l; sites = s; list = es }

-- "Site 1 (2,3), 2 (7,1): 1 from 0/1, 2 from 37/100. Add 3 (9,-4): no change. Remove 2 and 3: 1 from 0/1."
-- "2 (3,4), 5 (3,-4)": 5 from 0/1. Document 02, C-11: "that leg now lists 5".
-- "1 (0,0), 2 (10,0), 3 (5,5): 1 from 0/1, 2 from 1/2; 3 touches once."
-- "1 (-2,0), 2 (2,0): 2 from 0/1."
-- "1 (8,0), 2 (12,0): 1 from 0/1; they tie at 1."
-- "Leg (4,4) to (4,4), 7 (4,5), 3 (5,4): 3 from 0/1."
-- "Leg (-8000,-8000) to (8000,8000), site 1 at its start and 2 at its end: 1 from 0/1, 2 from 1/2."
-- Leg (-12000,-12000) to (12000,12000), site 1 (-11999,-12000), 2 (12000,12000): 1 from 0/1, 2 from
-- 1151999999/2303952000, as near as can be to C-12's "2,304,000,000 at most".
abbrev pub legs : List Try
legs =
    try ten (site 1 (at 2 3) ∷ site 2 (at 7 1) ∷ []) (since (site 1 (at 2 3)) 0 1 ∷ since (site 2 (at 7 1)) 37 100 ∷ [])
    ∷ try ten (site 1 (at 2 3) ∷ site 2 (at 7 1) ∷ site 3 (at_south 9 4) ∷ []) (since (site 1 (at 2 3)) 0 1 ∷ since (site 2 (at 7 1)) 37 100 ∷ [])
    ∷ try ten (site 1 (at 2 3) ∷ []) (since (site 1 (at 2 3)) 0 1 ∷ [])
    ∷ try ten (site 2 (at 3 4) ∷ site 5 (at_south 3 4) ∷ []) (since (site 5 (at_south 3 4)) 0 1 ∷ [])
    ∷ try ten (site 1 (at 0 0) ∷ site 2 (at 10 0) ∷ site 3 (at 5 5) ∷ []) (since (site 1 (at 0 0)) 0 1 ∷ since (site 2 (at 10 0)) 1 2 ∷ [])
    ∷ try ten (site 1 (at_west 2 0) ∷ site 2 (at 2 0) ∷ []) (since (site 2 (at 2 0)) 0 1 ∷ [])
    ∷ try ten (site 1 (at 8 0) ∷ site 2 (at 12 0) ∷ []) (since (site 1 (at 8 0)) 0 1 ∷ [])
    ∷ try (leg (at 4 4) (at 4 4)) (site 7 (at 4 5) ∷ site 3 (at 5 4) ∷ []) (since (site 3 (at 5 4)) 0 1 ∷ [])
    ∷ try diagonal diagonal_sites (since (site 1 (at_south_west 8000 8000)) 0 1 ∷ since (site 2 (at 8000 8000)) 1 2 ∷ [])
    ∷ try longest longest_sites (since (site 1 (at_south_west 11999 12000)) 0 1 ∷ since (site 2 (at 12000 12000)) 1151999999 2303952000 ∷ [])
    ∷ []

-- ties along the whole leg, by C-11's rule: the starred leg turned round; two on the right, and two on the left; on the
-- line itself, on the leg and beyond it; two on each side; a slanted leg; two stretches, each with a site on either
-- side; a leg of no length, where nothing is on the right
abbrev pub tied_legs : List Try
tied_legs =
    try (way_back ten) (site 2 (at 3 4) ∷ site 5 (at_south 3 4) ∷ []) (since (site 2 (at 3 4)) 0 1 ∷ [])
    ∷ try ten (site 5 (at_south 3 4) ∷ site 2 (at_south 3 4) ∷ []) (since (site 2 (at_south 3 4)) 0 1 ∷ [])
    ∷ try ten (site 5 (at 3 4) ∷ site 2 (at 3 4) ∷ []) (since (site 2 (at 3 4)) 0 1 ∷ [])
    ∷ try ten (site 5 (at 3 0) ∷ site 2 (at 3 0) ∷ []) (since (site 2 (at 3 0)) 0 1 ∷ [])
    ∷ try ten (site 5 (at 12 0) ∷ site 2 (at 12 0) ∷ []) (since (site 2 (at 12 0)) 0 1 ∷ [])
    ∷ try ten (site 1 (at 3 4) ∷ site 9 (at_south 3 4) ∷ site 2 (at 3 4) ∷ site 7 (at_south 3 4) ∷ [])
    (since (site 7 (at_south 3 4)) 0 1 ∷ [])
    ∷ try (leg (at 0 0) (at 4 2)) (site 2 (at 1 3) ∷ site 5 (at_south 3 1) ∷ []) (since (site 5 (at_south 3 1)) 0 1 ∷ [])
    ∷ try ten (site 1 (at 2 3) ∷ site 2 (at 7 1) ∷ site 3 (at_south 2 3) ∷ site 4 (at_south 7 1) ∷ [])
    (since (site 3 (at_south 2 3)) 0 1 ∷ since (site 4 (at_south 7 1)) 37 100 ∷ [])
    ∷ try (leg (at 4 4) (at 4 4)) (site 2 (at 4 5) ∷ site 1 (at 4 3) ∷ site 3 (at 5 4) ∷ [])
    (since (site 1 (at 4 3)) 0 1 ∷ [])
    ∷ []

-- the lists as the documents have them
abbrev pub listed : List Try → List (List Entry)
listed [] = []
listed (t ∷ ts) = t.list ∷ listed ts

-- the lists as they are computed
abbrev pub computed : List Try → List (List Entry)
computed [] = []
computed (t ∷ ts) = split_of t.leg t.sites ∷ computed ts
