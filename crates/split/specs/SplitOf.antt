-- The split list of a leg, computed: every site is inserted into the empty hull, then the starts are attached.
-- That it follows the rules of SplitList.antt, as only one list does, is proved in proofs/Exists.antt.
-- Assumes nothing.
use Rattle.std.specs.Prelude.{List, [], ◌∷◌, ◌+◌, ◌*◌, ◌≤◌, ◌<◌}
use Rattle.std.proofs.Math.Decide.{dec_le, dec_lt}
use Rattle.grid.specs.declared.Site.{Site}
use Rattle.grid.specs.declared.Leg.{Leg}
use Rattle.grid.specs.declared.Fraction.{Fraction}
use Rattle.grid.specs.Fraction.{lowest, zero_fraction}
use Rattle.split.specs.SplitList.{Entry}
use Rattle.split.specs.Hull.{Point, points, rise, fall, RightBelow, Under}
use Rattle.split.specs.Choice.{pick, both?, if?}

-- u, which is not right of x, is as low, and where they are one point it comes first: then x is not listed
abbrev pub Hides : Point → Point → Type 0
Hides u x = (u.c ≤ x.c) × (x.c ≤ u.c → x.a ≤ u.a → u.order ≤ x.order)

-- whether u hides x
unfoldable pub hides? : (u x : Point) → Dec (Hides u x)
hides? u x = both? (dec_le u.c x.c) (if? (dec_le x.c u.c) (if? (dec_le x.a u.a) (dec_le u.order x.order)))

-- whether v lies right of and below u
unfoldable pub right_below? : (u v : Point) → Dec (RightBelow u v)
right_below? u v = go (dec_lt u.a v.a) (dec_lt v.c u.c)
  where
    go : Dec (u.a < v.a) → Dec (v.c < u.c) → Dec (RightBelow u v)
    go (yes h) (yes k) = yes (record { right = h; down = k })
    go (yes h) (no k) = no (λ s. k s.down)
    go (no h) d = no (λ s. h s.right)

-- whether v may stand on l
unfoldable pub under? : (v : Point) (l : List Point) → Dec (Under v l)
under? v [] = yes tt
under? v (u ∷ []) = right_below? u v
under? v (u ∷ s ∷ l) = both? (right_below? u v) (dec_lt (rise s u * fall u v) (rise u v * fall s u))

-- x, which no vertex lies right of, on a hull: dropped where the last vertex hides it, else the last vertices go that
-- it takes over
unfoldable pub push : Point → List Point → List Point
push x [] = x ∷ []
push x (u ∷ l) = pick (hides? u x) (u ∷ l) (pick (under? x (u ∷ l)) (x ∷ u ∷ l) (push x l))

-- p anywhere in a hull: the vertices right of it are pushed again
unfoldable pub insert : Point → List Point → List Point
insert p [] = p ∷ []
insert p (u ∷ l) = pick (dec_le u.a p.a) (push p (u ∷ l)) (push u (insert p l))

-- the hull of all of Q
unfoldable pub build : List Point → List Point
build [] = []
build (p ∷ Q) = insert p (build Q)

-- where v takes over from u
abbrev pub changeover : Point → Point → Fraction
changeover u v = lowest (rise u v) (rise u v + fall u v)

-- the entries of the vertices that follow v
abbrev pub entries_after : Point → List Point → List Entry
entries_after v [] = []
entries_after v (w ∷ r) = record { site = w.site; start = changeover v w } ∷ entries_after w r

-- the entries of vertices, the first one first
abbrev pub entries_along : List Point → List Entry
entries_along [] = []
entries_along (v ∷ r) = record { site = v.site; start = zero_fraction } ∷ entries_after v r

-- the vertices r, nearest first, put back on l
abbrev pub onto : List Point → List Point → List Point
onto [] l = l
onto (w ∷ r) l = onto r (w ∷ l)

-- the entries of vertices, the last one first
abbrev pub entries_of : List Point → List Entry
entries_of h = entries_along (onto h [])

-- THE SPLIT LIST, computed
unfoldable pub split_of : Leg → List Site → List Entry
split_of l s = entries_of (build (points l s))
