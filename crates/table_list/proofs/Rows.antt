-- A row whose places have the numbers of the split list is the split list's row.
-- Assumes nothing.
use mathlib.Core.Path.{◌≡◌, refl, sym, ap, ap₂, subst, ◌∙◌}
use mathlib.Core.Bool.{true}
use mathlib.Core.Logic.{◌⊎◌, inl, inr}
use Rattle.std.specs.Prelude.{Option, Some}
use mathlib.Core.List.Memᴰ
use mathlib.Core.List.{List, [], ◌∷◌, append-nil, Memᴰ}
use Prim.Native.Nat.{ℕ, zero, suc, ◌+◌, ◌*◌, ◌≤◌, ◌<◌}
use native.Mathlib.Omega.{arith}
use native.Mathlib.Decide.{dec_lt}
use lib.ListN.{length, get_or}
use Rattle.limits.specs.Limits.{max_sites}
use Rattle.words.specs.Words.{word_at, put_word, Only}
use Rattle.words.proofs.Frame.{only_refl, only_trans, only_wider, only_put_word, word_put_word, word_low}
use Rattle.grid.specs.declared.Site.{Site}
use Rattle.grid.specs.declared.Leg.{Leg}
use Rattle.split.specs.SplitList.{Numbered}
use Rattle.split.specs.Hull.{Point, point_of, points, In, IsHull, Convex}
use Rattle.split.specs.SplitOf.{entries_after, entries_along, onto, entries_of, build, split_of}
use Rattle.split.proofs.Insertion.{build_hull}
use Rattle.split.proofs.Exists.{of_points, onto_onto, split_is}
use Rattle.split.proofs.Once.{few}
use Rattle.list_row.specs.Places.{site_at}
use Rattle.list_row.specs.Vertices.{row_bytes, place_at, vertex_in, stack, Held, Lists}
use Rattle.book.specs.Book.{sites_of, holds, list_of}
use Rattle.book.proofs.Lines.{member_holds, rising_one}
use Rattle.table_header.specs.Header.{leg_in, length_in}
use Rattle.table_sites.specs.Lines.{lines_in}
use Rattle.table_sites.specs.Rules.{SitesOk}
use Rattle.table_sites.proofs.Reading.{lines_length}
use Rattle.table_standing.specs.Layout.{list_start}
use Rattle.table_standing.specs.Standing.{words_from, standing_in, numbers_of, stored_number}
use Rattle.table_standing.proofs.Numbers.{numbers_length, standing_length}
use Rattle.table_rules.specs.Table.{book_of, Sound}
use Rattle.table_rules.specs.Listing.{ListsTable}
use Rattle.table_list.specs.Loading.{PlaceOf, NumbersHeld, PlacesOf}

-- the numbers of points
abbrev pub numbers_in : List Point → List ℕ
numbers_in [] = []
numbers_in (v ∷ r) = v.site.number ∷ numbers_in r

after_numbers : (v : Point) (r : List Point) → numbers_of (entries_after v r) ≡ numbers_in r
unfolding numbers_of
after_numbers v [] = refl
after_numbers v (w ∷ r) = ap (λ (x : List ℕ). w.site.number ∷ x) (after_numbers w r)

entries_numbers : (r : List Point) → numbers_of (entries_along r) ≡ numbers_in r
unfolding numbers_of
entries_numbers [] = refl
entries_numbers (v ∷ r) = ap (λ (x : List ℕ). v.site.number ∷ x) (after_numbers v r)

-- a list without its first
abbrev pub tail_of : List ℕ → List ℕ
tail_of [] = []
tail_of (x ∷ xs) = xs

-- each point is that of a site of s
abbrev pub PointsOf : Leg → List Site → List Point → Type 0
PointsOf l s r = (v : Point) → In v r → Memᴰ v.site s × (v ≡ point_of l v.site)

-- the points of a row from i on, n of them
abbrev row_from : Leg → List ℕ → List ℕ → ℕ → ℕ → List Point
row_from l b r i zero = []
row_from l b r i (suc n) = vertex_in l b r i ∷ row_from l b r (suc i) n

stack_row : (l : Leg) (b r : List ℕ) (i n : ℕ) (acc : List Point) → onto (row_from l b r i n) (stack l b r i) ≡ stack l b r (i + n)
stack_row l b r i zero acc = let e : i + 0 ≡ i = omega arith in rw e
stack_row l b r i (suc n) acc = let e : i + suc n ≡ suc i + n = omega arith in stack_row l b r (suc i) n acc ∙ ap (stack l b r) (sym e)

module _ (l : Leg) (b r : List ℕ) (s : List Site) (n : Numbered s) where
  -- word by word
  same_row : (w : List ℕ) (o i m : ℕ) (f : List Point) → PointsOf l s f → words_from w (o + 2 * i) m ≡ numbers_in f
      → ((j : ℕ) → i ≤ j → j < i + m → Memᴰ (site_at b (place_at r j)) s × ((site_at b (place_at r j)).number ≡ word_at w (o + 2 * j)))
      → row_from l b r i m ≡ f
  unfolding words_from
  same_row w o i zero [] p e h = refl
  same_row w o i zero (v ∷ f) p e h = absurd (let z : ◌≡◌ {A = ℕ} 0 (suc (length (numbers_in f))) = ap length e in omega arith)
  same_row w o i (suc m) [] p e h = absurd (let z : ◌≡◌ {A = ℕ} (suc (length (words_from w (o + 2 * i + 2) m))) 0 = ap length e in omega arith)
  same_row w o i (suc m) (v ∷ f) p e h =
      let here = h i (omega arith) (omega arith) in
      let pv = p v (Memᴰ.head refl) in
      let q : site_at b (place_at r i) ≡ v.site = n.one (site_at b (place_at r i)) v.site here.0 pv.0 (here.1 ∙ ap (λ (x : List ℕ). get_or x 0 0) e) in
      let t : o + 2 * i + 2 ≡ o + 2 * suc i = omega arith in
      ap₂ (λ (x : Point) (y : List Point). x ∷ y) (ap (point_of l) q ∙ sym pv.1)
      (same_row w o (suc i) m f (λ x y. p x (Memᴰ.tail y)) (ap (λ (j : ℕ). words_from w j m) (sym t) ∙ ap tail_of e) (λ j u k. h j (omega arith) (omega arith)))

pub onto_back : (a c : List Point) (x : Point) → In x (onto a c) → In x a ⊎ In x c
onto_back [] c x i = inr i
onto_back (w ∷ a) c x i = go (onto_back a (w ∷ c) x i)
  where
    go : In x a ⊎ In x (w ∷ c) → In x (w ∷ a) ⊎ In x c
    go (inl j) = inl (Memᴰ.tail j)
    go (inr (Memᴰ.head e)) = inl (Memᴰ.head e)
    go (inr (Memᴰ.tail j)) = inr j

onto_points : (l : Leg) (s : List Site) (h : List Point) → IsHull (points l s) h → PointsOf l s (onto h [])
onto_points l s h k v i = of_points l s v (k.sub v (go (onto_back h [] v i)))
  where
    go : In v h ⊎ In v [] → In v h
    go (inl j) = j
    go (inr j) = absurd (Memᴰ.not-nil j)

-- the row so far
pub record Loading (b : List ℕ) (k i : ℕ) (r r' : List ℕ) : Type 0 where
  pub within : i ≤ k
  pub few : k ≤ max_sites
  pub only : Only 0 (2 * i) r r'
  pub places : (j : ℕ) → j < i → PlaceOf b (stored_number b j) (place_at r' j)

module _ (b : List ℕ) (s : NumbersHeld b) where
  pub number_held : (k i x : ℕ) → k ≡ length_in b → i < k → x ≡ stored_number b i → holds x (lines_in b) ≡ true
  number_held k i x ek h ex = subst (λ (y : ℕ). holds y (lines_in b) ≡ true) (sym ex) (s.held i (omega arith))

  pub loading_none : (k : ℕ) (r : List ℕ) → k ≡ length_in b → Loading b k 0 r r
  loading_none k r ek = record { within = omega arith; few = omega (arith, s.few); only = only_refl; places = λ j h. absurd (omega arith) }

  -- one place more
  pub loading_one : (k i x p : ℕ) (r r' r'' : List ℕ) → row_bytes ≤ length r → k ≡ length_in b → i < k → Loading b k i r r' → x ≡ stored_number b i → PlaceOf b x p
      → r'' ≡ put_word r' (2 * i) p → Loading b k (i + 1) r r''
  unfolding place_at
  loading_one k i x p r r' r'' room ek h m ex q e =
      let cap = s.few in
      let o : Only (2 * i) (2 * i + 2) r' r'' = subst (λ (y : List ℕ). Only (2 * i) (2 * i + 2) r' y) (sym e) (only_put_word r' (2 * i) p) in
      let w : word_at r'' (2 * i) ≡ p = ap (λ (y : List ℕ). word_at y (2 * i)) e ∙ word_put_word r' (2 * i) p (omega (arith, m.only.len)) in
      record {
        within = omega arith;
        few = m.few;
        only = only_trans (only_wider (omega arith) (omega arith) m.only) (only_wider (omega arith) (omega arith) o);
        places = λ j g. go o w j g (dec_lt j i);
      }
    where
      go : Only (2 * i) (2 * i + 2) r' r'' → word_at r'' (2 * i) ≡ p → (j : ℕ) → j < i + 1 → Dec (j < i) → PlaceOf b (stored_number b j) (word_at r'' (2 * j))
      go o w j g (yes d) = subst (λ (y : ℕ). PlaceOf b (stored_number b j) y) (sym (word_low o (2 * j) (omega arith))) (m.places j d)
      go o w j g (no d) =
          let z : j ≡ i = omega arith in
          subst (λ (y : ℕ). PlaceOf b (stored_number b y) (word_at r'' (2 * y))) (sym z)
          (subst (λ (y : ℕ). PlaceOf b (stored_number b i) y) (sym w) (subst (λ (y : ℕ). PlaceOf b y p) ex q))

  -- EVERY PLACE
  pub loading_all : (k i : ℕ) (r r' : List ℕ) → k ≡ length_in b → k ≤ i → Loading b k i r r' → PlacesOf b r r' k
  loading_all k i r r' ek h m =
      let cap = s.few in
      record {
        count = ek;
        places = λ j g. m.places j (omega (arith, m.within));
        only = only_wider (omega arith) (omega (arith, m.within)) m.only;
      }

-- the stored numbers are those of the list of the sites s, all of which are lines
pub record Stored (l : Leg) (s : List Site) (b : List ℕ) : Type 0 where
  pub sites : SitesOk b
  pub lines : (p : Site) → Memᴰ p s → Memᴰ p (lines_in b)
  pub few : length s ≤ max_sites
  pub list : standing_in b ≡ numbers_of (split_of l s)

-- every number of points of lines is that of a line
words_member : (l : Leg) (b : List ℕ) (f : List Point) → PointsOf l (lines_in b) f → (o n : ℕ) → words_from b o n ≡ numbers_in f → (j : ℕ) → j < n → holds (word_at b (o + 2 * j)) (lines_in b) ≡ true
unfolding words_from
words_member l b f p o zero e j h = absurd (omega arith)
words_member l b [] p o (suc n) e j h = absurd (let z : ◌≡◌ {A = ℕ} (suc (length (words_from b (o + 2) n))) 0 = ap length e in omega arith)
words_member l b (v ∷ f) p o (suc n) e zero h =
    let z : o + 2 * 0 ≡ o = omega arith in
    member_holds (word_at b (o + 2 * 0)) (lines_in b) v.site (p v (Memᴰ.head refl)).0 (sym (ap (word_at b) z ∙ ap (λ (x : List ℕ). get_or x 0 0) e))
words_member l b (v ∷ f) p o (suc n) e (suc j) h =
    let z : o + 2 + 2 * j ≡ o + 2 * suc j = omega arith in
    subst (λ (x : ℕ). holds (word_at b x) (lines_in b) ≡ true) z
    (words_member l b f (λ x y. p x (Memᴰ.tail y)) (o + 2) n (ap tail_of e) j (omega arith))

module _ (l : Leg) (s : List Site) (b : List ℕ) (st : Stored l s b) where
  pub all_numbered : Numbered (lines_in b)
  all_numbered = record { small = λ p m. (st.sites.numbers p m).most; one = rising_one (lines_in b) st.sites.rising }

  stored_numbered : Numbered s
  stored_numbered =
      record { small = λ p m. all_numbered.small p (st.lines p m); one = λ p q m n. all_numbered.one p q (st.lines p m) (st.lines q n) }

  hull : IsHull (points l s) (build (points l s))
  hull = build_hull (points l s)

  pub listed_points : PointsOf l (lines_in b) (onto (build (points l s)) [])
  listed_points v i = let p = onto_points l s (build (points l s)) hull v i in (st.lines v.site p.0, p.1)

  pub words_are : words_from b list_start (length_in b) ≡ numbers_in (onto (build (points l s)) [])
  unfolding standing_in split_of
  words_are = st.list ∙ entries_numbers (onto (build (points l s)) [])

  -- AS MANY ENTRIES as the table says, and no more than sites
  pub stored_few : length_in b ≤ length s
  stored_few =
      omega (
        arith,
        standing_length b,
        ap length st.list,
        numbers_length (split_of l s),
        few l s stored_numbered (split_of l s) (split_is l s stored_numbered),
      )

  pub stored_held : NumbersHeld b
  stored_held =
      record {
        few = omega (arith, stored_few, st.few);
        held = words_member l b (onto (build (points l s)) []) listed_points list_start (length_in b) words_are;
      }

  module _ (k : ℕ) (r r' : List ℕ) (room : row_bytes ≤ length r) (m : PlacesOf b r r' k) where
    stack_is : stack l b r' k ≡ build (points l s)
    stack_is =
        let row : row_from l b r' 0 k ≡ onto (build (points l s)) [] =
        same_row l b r' (lines_in b) all_numbered b list_start 0 k (onto (build (points l s)) []) listed_points
        (ap₂ (λ (x y : ℕ). words_from b x y) start m.count ∙ words_are)
        (λ j u g. let q = m.places j (omega arith) in (q.line, q.number)) in
        sym (stack_row l b r' 0 k [] ∙ ap (stack l b r') (plain k)) ∙ ap (λ (x : List Point). onto x []) row
        ∙ onto_onto (build (points l s)) [] [] ∙ append-nil (build (points l s))
      where
        start : list_start + 2 * 0 ≡ list_start
        start = omega arith

        plain : (j : ℕ) → 0 + j ≡ j
        plain j = omega arith

    -- THE ROW IS THE SPLIT LIST'S
    pub places_held : Held l b r' k
    places_held =
        let cap : k ≤ max_sites = omega (arith, stored_few, st.few, m.count) in
        record {
          inside = omega (arith, m.only.len, cap);
          few = cap;
          sites = λ j g. (m.places j g).site;
          convex = subst Convex (sym stack_is) hull.convex;
        }

    pub places_list : Lists l b r' k s
    places_list = subst (IsHull (points l s)) (sym stack_is) hull

-- a sound table's list is that of its book's sites
module _ (b : List ℕ) (l : Leg) (s : Sound b) (set : leg_in b ≡ Some l) where
  sound_stored : Stored l (sites_of (book_of b)) b
  sound_stored =
      record {
        sites = s.whole.sites;
        lines = λ p m. m;
        few = omega (arith, lines_length b, s.whole.sites.few);
        list = s.standing.list ∙ ap (λ (o : Option Leg). numbers_of (list_of o (sites_of (book_of b)))) set;
      }

  pub sound_held : NumbersHeld b
  sound_held = stored_held l (sites_of (book_of b)) b sound_stored

  pub loaded : (k : ℕ) (r r' : List ℕ) → row_bytes ≤ length r → PlacesOf b r r' k → ListsTable l b r' k
  unfolding split_of
  loaded k r r' room m =
      record {
        held = places_held l (sites_of (book_of b)) b sound_stored k r r' room m;
        list = ap entries_of (stack_is l (sites_of (book_of b)) b sound_stored k r r' room m);
      }
